-- The pay's second number; the stake has 32 bits.
use mathlib.Core.Path.{◌≡◌, ap}
use native.Mathlib.Omega.{arith}
use lib.ListN.{take}
use mathlib.Core.Bool.{cond}
use Rattle.payment.specs.declared.pay.Pay.{Pay}
use Rattle.payment.specs.SidePay.{side_pay}
use Rattle.close.proofs.paying.Back.{side-most}
use Rattle.close.proofs.paying.side_back.Goals as goal

pub returns : goal.returns
returns c =
    let a = c.args in
    let first = take (cond a.split 3 2) a.first in
    let same : c.side_pay-pay.result.back ≡ (side_pay a.kind a.stake first).back = ap (λ (p : Pay). p.back) c.side_pay-pay.ensures in
    record { same = same; small = omega (arith, side-most a.kind a.stake first) }
