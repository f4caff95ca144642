-- Nothing goes back to a guest who has nothing.
use mathlib.Core.Path.{sym, ◌∙◌}
use native.Mathlib.Omega.{arith}
use Rattle.table.specs.Seat.{with_money}
use Rattle.close.proofs.paying.Back.{passed_over}
use Rattle.close.proofs.paying.Payment.other_back.Goals as goal

pub returns-then-no_money : goal.returns-then-no_money
returns-then-no_money c =
    let a = c.args in
    record { same = sym (passed_over a.self.now.options a.self.now.bank (with_money a.s a.m) (sym c.no_money.ensures ∙ c.if-no_money.true)); small = omega arith }
