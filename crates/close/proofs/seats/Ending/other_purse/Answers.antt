-- A guest who has nothing has nothing when the round ends.
use mathlib.Core.Path.{sym, ◌∙◌}
use Rattle.table.specs.Seat.{with_money}
use Rattle.close.proofs.seats.Laws.{passed_over}
use Rattle.close.proofs.seats.Ending.other_purse.Goals as goal

pub returns-then-no_money : goal.returns-then-no_money
returns-then-no_money c =
    let a = c.args in
    sym (passed_over a.self.now (with_money a.s a.m) (sym c.no_money.ensures ∙ c.if-no_money.true))
