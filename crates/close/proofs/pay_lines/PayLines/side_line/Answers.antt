-- No side stake of the kind, no line; else one.
use mathlib.Core.Bool.{cond}
use native.Mathlib.Omega.{arith}
use borrow.Author.Tests.{lt-ltb, le-ltb}
use lib.ListN.{take}
use Rattle.payment.specs.Pays.{side_due}
use Rattle.close.proofs.pay_lines.Pays.{side_pay-small}
use Rattle.close.proofs.pay_lines.Lines.{put_none}
use Rattle.close.proofs.pay_lines.PayLines.side_line.Goals as goal

pub returns-then-stake-eq0 : goal.returns-then-stake-eq0
unfolding side_due
returns-then-stake-eq0 c = let a = c.args in rw (le-ltb 0 a.stake (omega arith)) (put_none a.self.now)

pub put-requires : goal.put-requires
put-requires c =
    let a = c.args in
    let pay = c.side_pay-pay in
    side_pay-small a.kind a.stake (take (cond a.split 3 2) a.first) (omega arith) pay.result pay.ensures

pub returns : goal.returns
unfolding side_due
returns c =
    let a = c.args in
    rw (lt-ltb 0 a.stake (omega arith), ← c.side_pay-pay.ensures) c.put.ensures
