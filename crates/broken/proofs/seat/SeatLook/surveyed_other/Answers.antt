-- A guest without money is sound exactly if the seat's number permits it, and has no sums.
use mathlib.Core.Path.{sym, ◌∙◌}
use Rattle.table.proofs.Facts.{nothing_facts}
use Rattle.table.specs.Seat.{with_money}
use Rattle.broken.proofs.seat.Guests.{of_tested, empty-surveyed}
use Rattle.broken.proofs.seat.SeatLook.surveyed_other.Goals as goal

pub returns-then-no_money : goal.returns-then-no_money
returns-then-no_money c =
    let a = c.args in
    let guest = with_money a.self.seat.now a.m in
    let (none, bets) = nothing_facts guest (sym c.no_money.ensures ∙ c.if-no_money.true) in
    rw c.then_some.ensures (of_tested _ _ 1 (record { sound = c.sound_number.result; sums = c.no_sums.result })
    (empty-surveyed a.self.round.options a.self.round.dealt a.self.round.up a.self.number guest c.sound_number.result c.no_sums.result
    none bets c.sound_number.ensures c.no_sums.ensures))
