-- The hands, the insurance and the side stakes, each with its bound: stakes and insurance have 32 bits.
use mathlib.Core.Path.{◌≡◌}
use Prim.Native.Nat.{◌≤◌, ◌<◌}
use native.Mathlib.Omega.{arith}
use lib.ListN.{length}
use Rattle.payment.proofs.Pays.{back_of_lem, sides_back}
use Rattle.table.specs.Seat.{bets_of, sides, first_cards}
use Rattle.close_spec.specs.Close.{guest_back}
use Rattle.close.proofs.paying.Back.{insurance_most}
use Rattle.close.proofs.FirstCards.{first_cards_lem}
use borrow.Author.Rules.{rules}
use Rattle.close.proofs.paying.Payment.guest_back.Goals.{After-struct_known-2-1}
use Rattle.close.proofs.paying.Payment.guest_back.Goals as goal

insured-most : (c : After-struct_known-2-1) → c.insurance_pay-insured.result.back ≤ 12884901888
insured-most c =
    let insured = c in
    let start = insured in
    let a = start.args in
    let small : a.s.money.insurance < 4294967296 = search rules in
    omega (arith, insurance_most a.self.now.bank a.s.money.insurance insured.insurance_pay-insured.result insured.insurance_pay-insured.ensures)

pub overflow_add-result : goal.overflow_add-result
overflow_add-result c = omega (arith, insured-most c)

pub overflow_add-result-2 : goal.overflow_add-result-2
overflow_add-result-2 c = omega (arith, insured-most c)

pub returns : goal.returns
unfolding guest_back
returns c =
    let insured = c in
    let start = insured in
    let a = start.args in
    let full : length a.s.hands.places ≡ 4 = search rules in record { same = rw (back_of_lem a.self.now.options a.self.now.bank (bets_of a.s), ← sides_back (sides a.s) (first_cards a.s), ← first_cards_lem a.s full, c.hands_back.ensures.same, insured.insurance_pay-insured.ensures, c.sides_back-beside.ensures.same); small = omega (arith, insured-most c) }
