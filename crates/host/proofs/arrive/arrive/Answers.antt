-- Why it is refused, or the effect, at the guest's place.
use Rattle.host.proofs.Outcomes.{host_met, host_accepted_lem}
use Rattle.host.proofs.arrive.arrive.Goals as goal

pub returns-in_err-guest : goal.returns-in_err-guest
returns-in_err-guest c = host_met _ _ _ _ _ c.from_residual.ensures.1 c.in_err-guest.ensures.number

pub returns : goal.returns
returns c =
    let a = c.args in
    host_accepted_lem _ _ _ _ c.in_ok-guest.ensures.number (simp (c.place.ensures.same, c.in_ok-guest.ensures.guest, c.arrived.ensures))
