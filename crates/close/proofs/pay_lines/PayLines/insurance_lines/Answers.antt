-- No insurance, no line; else one.
use native.Mathlib.Omega.{arith}
use borrow.Author.Tests.{lt-ltb, le-ltb}
use Rattle.payment.specs.Pays.{insurance_pays}
use Rattle.close.proofs.pay_lines.Pays.{insurance_pay-small}
use Rattle.close.proofs.pay_lines.Lines.{put_none}
use Rattle.close.proofs.pay_lines.PayLines.insurance_lines.Goals as goal

pub returns-then-insurance-eq0 : goal.returns-then-insurance-eq0
unfolding insurance_pays
returns-then-insurance-eq0 c = let a = c.args in rw (le-ltb 0 a.insurance (omega arith)) (put_none a.self.now)

pub put-requires : goal.put-requires
put-requires c =
    let a = c.args in
    let pay = c.insurance_pay-pay in
    insurance_pay-small a.bank a.insurance (omega arith) pay.result pay.ensures

pub returns : goal.returns
unfolding insurance_pays
returns c =
    let a = c.args in
    rw (lt-ltb 0 a.insurance (omega arith), ← c.insurance_pay-pay.ensures) c.put.ensures
