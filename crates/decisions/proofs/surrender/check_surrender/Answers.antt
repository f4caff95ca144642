-- The conditions are asked in the order of the list: those of every call of a guest first.
use mathlib.Core.Path.{refl}
use Rattle.call.specs.Refusal.{first}
use Rattle.answer.proofs.conditions.Laws.{refused-check, behind-guest}
use Rattle.decisions_spec.specs.Surrender.{surrender_conditions}
use Rattle.decisions.proofs.surrender.check_surrender.Goals as goal

pub returns-in_err-guest : goal.returns-in_err-guest
unfolding surrender_conditions
returns-in_err-guest c = refused-check _ _ _ c.from_residual.ensures.1 c.in_err-guest.ensures.number _

pub returns : goal.returns
unfolding surrender_conditions first
returns c =
    rw c.and.ensures (behind-guest _ _ _ _ refl c.in_ok-guest.ensures.number c.in_ok-guest.ensures.guest _ _ (simp (
      c.first_refusal.ensures,
      c.is_ace.ensures,
      c.seat_waits.ensures,
      c.any_drew.ensures,
      c.decider.ensures,
      c.guest_money-money.ensures,
      c.guest_seat-s.ensures,
      c.up-card.ensures,
      c.table-t.ensures.same,
      c.in_ok-guest.ensures.guest,
    )))
