-- What goes back at most for a hand, an insurance and a side stake; and that nothing goes back to a guest who has nothing.
use mathlib.Core.Path.{◌≡◌}
use mathlib.Core.Bool.{true}
use mathlib.Core.List.{List}
use Prim.Native.Nat.{ℕ, ◌*◌, ◌≤◌}
use native.Mathlib.Nat.{mul-le-mul_left}
use native.Mathlib.Omega.{arith}
use lib.Dec.{ltb}
use Rattle.lists.proofs.Picks.{cond_most}
use Rattle.options.specs.declared.Options.{Options}
use Rattle.payment.specs.declared.bank.Score.{Score}
use Rattle.rules.specs.SeatHand.{Played}
use Rattle.payment.proofs.Bounds.{wager_bounds}
use Rattle.payment.specs.declared.pay.Pay.{Pay}
use Rattle.payment.specs.HandPay.{hand_pay}
use Rattle.payment.specs.Insurance.{insurance_pay}
use Rattle.payment.specs.SidePay.{side_odds, side_pay}
use Rattle.payment.proofs.side_pay.Laws.{odds_most}
use Rattle.payment.proofs.cover.Bounds.{gain_most}
use Rattle.table.specs.declared.Seat.{Seat}
use Rattle.table.specs.Guest.{is_nobody}
use Rattle.table.proofs.Facts.{nothing_facts}
use Rattle.close_spec.specs.Close.{guest_back}
use Rattle.close_spec.proofs.Back.{nothing_back}

-- the wager, at most twice the stake, and a gain of at most that
pub hand-most : (o : Options) (bank : Score) (S : ℕ) (h : Played) → (hand_pay o bank S h).back ≤ 4 * S
hand-most o bank S h = omega (arith, gain_most o bank S h, (wager_bounds S h).1)

pub insurance_most : (bank : Score) (I : ℕ) (p : Pay) → p ≡ insurance_pay bank I → p.back ≤ 3 * I
unfolding insurance_pay
insurance_most bank I p e = rw e (cond_most bank.natural (omega arith) (omega arith))

pub side-most : (k n : ℕ) (first : List ℕ) → (side_pay k n first).back ≤ 5001 * n
unfolding side_pay
side-most k n first = cond_most (ltb 0 (side_odds k first)) (omega (arith, mul-le-mul_left n (odds_most k first))) (omega arith)

pub passed_over : (o : Options) (bank : Score) (s : Seat) → is_nobody s.money ≡ true → guest_back o bank s ≡ 0
passed_over o bank s empty = nothing_back o bank s (nothing_facts s empty).1
