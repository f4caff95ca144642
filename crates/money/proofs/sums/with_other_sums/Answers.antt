-- A guest who has nothing adds nothing.
use mathlib.Core.Path.{sym, ◌∙◌}
use Rattle.money.proofs.sums.Pass.{passed_over}
use Rattle.table.specs.Seat.{with_money}
use Rattle.money.proofs.sums.with_other_sums.Goals as goal

pub returns-then-no_money : goal.returns-then-no_money
returns-then-no_money c =
    let both = passed_over c.args.o c.args.all (with_money c.args.s c.args.m) (sym c.no_money.ensures ∙ c.if-no_money.true) in
    record { same = both.0; small = both.1 }
