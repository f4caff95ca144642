-- A seat at rest is sound exactly if its number permits the purse.
use Rattle.broken.proofs.seat.Guests.{Survey, of_tested, resting}
use Rattle.broken.proofs.seat.SeatLook.surveyed_lone.Goals as goal

pub returns-then-at_rest : goal.returns-then-at_rest
returns-then-at_rest c =
    let a = c.args in
    let v : Survey = record { sound = c.purse_fits.result; sums = c.purse_sums.result } in
    rw c.then_some.ensures (of_tested _ _ 3 v (resting a.self.round.options a.self.round.dealt a.self.round.up a.self.number a.self.seat.now (c.at_rest.ensures c.if-at_rest.true) v c.requires c.purse_fits.ensures c.purse_sums.ensures))
