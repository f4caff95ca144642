-- A call of a seat asks 1, its phase and 8 first: their number is the call's, or none of them holds, the seat is one of the nine, and what is asked
-- behind them decides. A call of a guest asks 22 too. Here r is what the questions answer: why the call is refused, or nothing.
use mathlib.Core.Path.{◌≡◌, sym, ◌∙◌, ap}
use mathlib.Core.Bool.{true, false}
use mathlib.Core.List.{List, [], ◌∷◌, ◌++◌}
use Prim.Native.Nat.{ℕ, ◌<◌}
use lib.Dec.{ltb}
use borrow.Author.Tests.{leb-false}
use Rattle.std.specs.Prelude.{Result, Ok, IfOk}
use Rattle.std.specs.Result.{IsErrAnd, result_and}
use Rattle.std.proofs.lemmas.Result.{IfOk-weaker}
use Rattle.lists.specs.Tests.{all_of}
use Rattle.call.specs.declared.refusal.Refusal.{Refusal}
use Rattle.call.specs.Refusal.{Condition, number_of, number_in, first}
use Rattle.call.specs.declared.At.{At}
use Rattle.call.proofs.Refusals.{residual, refusal_some, first-before, first-behind, none_hold, and_number, and_value}
use Rattle.table.specs.declared.Table.{Table}
use Rattle.table.specs.Table.{no_such_seat}
use Rattle.table.specs.Broken.{broken}
use Rattle.table.proofs.Facts.{seat_of-nine}
use Rattle.answer.specs.Checked.{Checked}
use Rattle.answer.specs.Conditions.{seat_conditions, no_position, guest_conditions}

-- 1 never holds of a table that is not broken
module _ (phase : Condition) (t : Table) (whole : broken t ≡ false) (j : ℕ) {n : ℕ} where
  pub whole_seat : n ≡ first (phase ∷ (8, no_such_seat t j) ∷ []) → n ≡ first (seat_conditions phase t j)
  unfolding first seat_conditions
  whole_seat e = e ∙ rw whole

  pub whole_guest : (p : ℕ) → n ≡ first (phase ∷ (8, no_such_seat t j) ∷ no_position p ∷ []) → n ≡ first (guest_conditions phase t j p)
  unfolding first seat_conditions guest_conditions
  whole_guest p e = e ∙ rw whole

-- what refuses a call by its first conditions refuses it, whatever is asked behind them
pub refuses : (asked : List Condition) {T : Type 0} (r : Result T Refusal) (why : Refusal) → IsErrAnd r (λ e. e ≡ why) → number_of why ≡ first asked
    → (rest : List Condition) → number_in r ≡ first (asked ++ rest)
refuses asked r why met e rest = ap number_in (residual r met) ∙ sym (first-before asked rest (number_of why) (sym e) (refusal_some why))

module _ (phase : Condition) (t : Table) (j : ℕ) (number : ltb 0 phase.0 ≡ true) (none : 0 ≡ first (seat_conditions phase t j)) where
  seat-numbers : all_of (λ c. ltb 0 c.0) (seat_conditions phase t j) ≡ true
  unfolding seat_conditions all_of
  seat-numbers = simp number

  pub seat-passes : (rest : List Condition) → first (seat_conditions phase t j ++ rest) ≡ first rest
  seat-passes rest = first-behind (seat_conditions phase t j) rest seat-numbers (sym none)

  pub seat-nine : j < 9
  unfolding seat_conditions
  seat-nine =
      let (unbroken, (right-phase, (such-seat, _))) = none_hold (seat_conditions phase t j) seat-numbers (sym none) in
      seat_of-nine t j unbroken such-seat

-- the same for a call of a guest; where none holds, the position is one of the three
module _ (phase : Condition) (t : Table) (j p : ℕ) (number : ltb 0 phase.0 ≡ true) (none : 0 ≡ first (guest_conditions phase t j p)) where
  guest-numbers : all_of (λ c. ltb 0 c.0) (guest_conditions phase t j p) ≡ true
  unfolding seat_conditions guest_conditions all_of
  guest-numbers = simp number

  pub guest-passes : (rest : List Condition) → first (guest_conditions phase t j p ++ rest) ≡ first rest
  guest-passes rest = first-behind (guest_conditions phase t j p) rest guest-numbers (sym none)

  pub guest-nine : j < 9
  unfolding seat_conditions guest_conditions
  guest-nine =
      let (unbroken, (right-phase, (such-seat, _))) = none_hold (guest_conditions phase t j p) guest-numbers (sym none) in
      seat_of-nine t j unbroken such-seat

  pub guest_three : p < 3
  unfolding seat_conditions guest_conditions
  guest_three =
      let (unbroken, (right-phase, (such-seat, (such-position, _)))) = none_hold (guest_conditions phase t j p) guest-numbers (sym none) in
      leb-false 3 p such-position

-- what refuses a guest's call by its first conditions, as the check of the call
pub refused-check : (asked : List Condition) {at : At} (r : Result At Refusal) (why : Refusal) → IsErrAnd r (λ e. e ≡ why) → number_of why ≡ first asked
    → (rest : List Condition) → Checked (asked ++ rest) at r
refused-check asked r why met e rest =
    record {
      number = refuses asked r why met e rest;
      guest = rw (residual r met) tt;
    }

-- what is asked behind decides, and else the guest is handed on
pub handed-on : {T : Type 0} (r : Result T Refusal) (at g : At) → g ≡ at → IfOk (result_and r (Ok g)) (λ y. y ≡ at)
handed-on r at g is = IfOk-weaker (result_and r (Ok g)) (λ y. y ≡ g) (λ y. y ≡ at) (λ y same. same ∙ is) (and_value r g)

-- so of a guest of whom none of the first conditions of a guest's call holds
pub behind-guest : (phase : Condition) (t : Table) (at g : At) → ltb 0 phase.0 ≡ true → 0 ≡ first (guest_conditions phase t at.seat at.position) → g ≡ at
    → {T : Type 0} (r : Result T Refusal) (rest : List Condition) → number_in r ≡ first rest → Checked (guest_conditions phase t at.seat at.position ++ rest) at (result_and r (Ok g))
behind-guest phase t at g number none is r rest e =
    record {
      number = and_number r g ∙ e ∙ sym (guest-passes phase t at.seat at.position number none rest);
      guest = handed-on r at g is;
    }
