-- Stakes, side stakes and insurances are 32 bits wide, so pay and net are far from 64 bits, and a net is kept as it is.
use mathlib.Core.Path.{◌≡◌, ap}
use mathlib.Core.List.{List}
use Prim.Native.Nat.{ℕ, ◌*◌, ◌<◌, ◌≤◌}
use native.Mathlib.Omega.{arith}
use Rattle.lists.proofs.Picks.{cond_most}
use Rattle.options.specs.declared.Options.{Options}
use Rattle.payment.specs.declared.bank.Score.{Score}
use Rattle.rules.specs.SeatHand.{Played}
use Rattle.payment.specs.declared.pay.Pay.{Pay}
use Rattle.payment.specs.HandPay.{hand_pay}
use Rattle.payment.specs.Insurance.{insurance_pay}
use Rattle.payment.specs.SidePay.{side_pay}
use Rattle.payment.proofs.Bounds.{wager_bounds}
use Rattle.payment.proofs.cover.Bounds.{gain_most}
use Rattle.close.proofs.Casts.{Small}
use Rattle.close.proofs.paying.Back.{side-most}

module _ (bank : Score) (n : ℕ) (small : n < 4294967296) (p : Pay) where
  pub hand_pay-small : (o : Options) (h : Played) → p ≡ hand_pay o bank n h → Small p
  hand_pay-small o h e =
      let laid = ap (λ (x : Pay). x.laid) e in
      let back = ap (λ (x : Pay). x.back) e in
      let most = gain_most o bank n h in
      let wager = (wager_bounds n h).1 in
      (omega arith, omega arith)

  pub insurance_pay-small : p ≡ insurance_pay bank n → Small p
  unfolding insurance_pay
  insurance_pay-small e =
      let laid = ap (λ (x : Pay). x.laid) e in
      let back = ap (λ (x : Pay). x.back) e in
      let most : (insurance_pay bank n).back ≤ 3 * n = cond_most bank.natural (omega arith) (omega arith) in
      (omega arith, omega arith)

pub side_pay-small : (k n : ℕ) (first : List ℕ) → n < 4294967296 → (p : Pay) → p ≡ side_pay k n first → Small p
unfolding side_pay
side_pay-small k n first small p e =
    let laid : p.laid ≡ n = ap (λ (x : Pay). x.laid) e in
    let back : p.back ≡ (side_pay k n first).back = ap (λ (x : Pay). x.back) e in
    let most = side-most k n first in
    (omega arith, omega arith)
