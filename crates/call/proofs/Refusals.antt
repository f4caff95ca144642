-- The answer of a list of conditions is n exactly when the condition of n holds and none before it does.
use mathlib.Core.Path.{◌≡◌, refl, sym, ◌∙◌, ap}
use mathlib.Core.Bool.{Bool, true, false, not, ◌&&◌, and-false, and-eq-true_iff, true≢false}
use mathlib.Core.List.{List, [], ◌∷◌, ◌++◌}
use Prim.Native.Nat.{ℕ, zero, suc, ◌<◌}
use native.Mathlib.Omega.{arith}
use lib.Dec.{ltb, eqb}
use borrow.Author.Tests.{ltb-true, lt-ltb, eq-eqb}
use Rattle.std.specs.Prelude.{Result, Ok, Err, IfOk}
use Rattle.std.specs.Result.{IsErrAnd, result_and}
use Rattle.std.proofs.lemmas.Result.{err_from_is_err_and}
use Rattle.lists.specs.Tests.{any_of, all_of}
use Rattle.lists.proofs.Tests.{or_eq_false}
use Rattle.call.specs.declared.refusal.Refusal.{Refusal}
use Rattle.call.specs.declared.refusal.Refusal.TheVariants.{Broken, WrongOptions, WrongOrder, RoundDealt, NoRound, NothingStaked, HandWaits, NoSeat, LaidAlready, NoStake, NotInTurn, TooLate, Barred, WrongAmount, ShortPurse, ShortTray, ShortShoe, NoCards, NoPair, HandsUsedUp, NoSideKind, NoPosition, NotDeciding, FileLength, FileCheck, FileContent, WrongDepth, Taken, NotHere}
use Rattle.call.specs.Refusal.{Condition, number_of, number_in, first, holds, FirstAt}

says : (before : List Condition) (n : ℕ) (after : List Condition) → any_of holds before ≡ false → first (before ++ (n, true) ∷ after) ≡ n
unfolding first any_of
says [] n after none = refl
says (c ∷ cs) n after none =
    let (here, later) = or_eq_false (holds c) (any_of holds cs) none in
    rw here (says cs n after later)

-- where it stands, it is the answer
pub first_says : (cs : List Condition) (n : ℕ) → FirstAt cs n → first cs ≡ n
first_says cs n at = ap first at.here ∙ says at.before n at.after at.none

-- an answer that is no 0 stands somewhere
pub first_stands : (cs : List Condition) (n : ℕ) → (n ≡ 0 → ⊥) → first cs ≡ n → FirstAt cs n
unfolding first any_of
first_stands [] n h e = absurd (h (sym e))
first_stands ((m, true) ∷ cs) n h e = record { before = []; after = cs; here = ap (λ (k : ℕ). (k, true) ∷ cs) e; none = refl }
first_stands ((m, false) ∷ cs) n h e =
    let later = first_stands cs n h e in
    record {
      before = (m, false) ∷ later.before;
      after = later.after;
      here = ap (λ (xs : List Condition). (m, false) ∷ xs) later.here;
      none = later.none;
    }

-- it is the number of a condition that holds
pub first_holds : (cs : List Condition) (n : ℕ) → (n ≡ 0 → ⊥) → first cs ≡ n → any_of (λ c. eqb c.0 n && holds c) cs ≡ true
unfolding first any_of
first_holds [] n h e = absurd (h (sym e))
first_holds ((m, true) ∷ cs) n h e = simp (eq-eqb m n e)
first_holds ((m, false) ∷ cs) n h e = simp (and-false, first_holds cs n h e)

-- of conditions that have other numbers and are asked before it none holds
pub first_past : (cs rest : List Condition) (n : ℕ) → all_of (λ c. not (eqb c.0 n)) cs ≡ true → first (cs ++ rest) ≡ n → first cs ≡ 0
unfolding first all_of
first_past [] rest n others e = refl
first_past ((m, true) ∷ cs) rest n others e = absurd (true≢false (sym (simp (eq-eqb m n e) at others)))
first_past ((m, false) ∷ cs) rest n others e = first_past cs rest n ((and-eq-true_iff (not (eqb m n)) (all_of (λ c. not (eqb c.0 n)) cs)).0 others).1 e

-- an accepted call: no condition holds, one after the other. A number is never 0
pub accepted-head : (n : ℕ) (b : Bool) (cs : List Condition) → 0 < n → first ((n, b) ∷ cs) ≡ 0 → b ≡ false
unfolding first
accepted-head n true cs h e = absurd (omega arith)
accepted-head n false cs h e = refl

pub accepted_tail : (n : ℕ) (b : Bool) (cs : List Condition) → 0 < n → first ((n, b) ∷ cs) ≡ 0 → first cs ≡ 0
unfolding first
accepted_tail n true cs h e = omega arith
accepted_tail n false cs h e = e

-- no condition of the list holds: an equation for each, in the list's order, so that a proof names them where it takes the list apart
abbrev pub NoneHold : List Condition → Type 0
NoneHold [] = Unit {0}
NoneHold ((n, b) ∷ cs) = (b ≡ false) × NoneHold cs

pub none_hold : (cs : List Condition) → all_of (λ c. ltb 0 c.0) cs ≡ true → first cs ≡ 0 → NoneHold cs
unfolding all_of
none_hold [] numbers e = tt
none_hold ((n, b) ∷ cs) numbers e =
    let (here, later) = (and-eq-true_iff (ltb 0 n) (all_of (λ c. ltb 0 c.0) cs)).0 numbers in
    (accepted-head n b cs (ltb-true 0 n here) e, none_hold cs later (accepted_tail n b cs (ltb-true 0 n here) e))

-- conditions asked one list after the other: the first list's answer, or else the second's
pub first-before : (cs rest : List Condition) (n : ℕ) → first cs ≡ n → (n ≡ 0 → ⊥) → first (cs ++ rest) ≡ n
unfolding first
first-before [] rest n e some = absurd (some (sym e))
first-before ((m, true) ∷ cs) rest n e some = e
first-before ((m, false) ∷ cs) rest n e some = first-before cs rest n e some

pub first-behind : (cs rest : List Condition) → all_of (λ c. ltb 0 c.0) cs ≡ true → first cs ≡ 0 → first (cs ++ rest) ≡ first rest
unfolding first all_of
first-behind [] rest numbers e = refl
first-behind ((m, true) ∷ cs) rest numbers e =
    absurd (omega (arith, ltb-true 0 m ((and-eq-true_iff (ltb 0 m) (all_of (λ c. ltb 0 c.0) cs)).0 numbers).0))
first-behind ((m, false) ∷ cs) rest numbers e = first-behind cs rest ((and-eq-true_iff (ltb 0 m) (all_of (λ c. ltb 0 c.0) cs)).0 numbers).1 e

-- a `?` gives back the refusal that it met
pub residual : {T : Type 0} (r : Result T Refusal) {why : Refusal} → IsErrAnd r (λ e. e ≡ why) → r ≡ Err why
residual r met = let (e, is, same) = err_from_is_err_and r met in is ∙ ap (λ (w : Refusal). Err w) same

-- no refusal has the number of an accepted call
pub refusal_some : (why : Refusal) → number_of why ≡ 0 → ⊥
refusal_some Broken e = absurd (omega arith)
refusal_some WrongOptions e = absurd (omega arith)
refusal_some WrongOrder e = absurd (omega arith)
refusal_some RoundDealt e = absurd (omega arith)
refusal_some NoRound e = absurd (omega arith)
refusal_some NothingStaked e = absurd (omega arith)
refusal_some HandWaits e = absurd (omega arith)
refusal_some NoSeat e = absurd (omega arith)
refusal_some LaidAlready e = absurd (omega arith)
refusal_some NoStake e = absurd (omega arith)
refusal_some NotInTurn e = absurd (omega arith)
refusal_some TooLate e = absurd (omega arith)
refusal_some Barred e = absurd (omega arith)
refusal_some WrongAmount e = absurd (omega arith)
refusal_some ShortPurse e = absurd (omega arith)
refusal_some ShortTray e = absurd (omega arith)
refusal_some ShortShoe e = absurd (omega arith)
refusal_some NoCards e = absurd (omega arith)
refusal_some NoPair e = absurd (omega arith)
refusal_some HandsUsedUp e = absurd (omega arith)
refusal_some NoSideKind e = absurd (omega arith)
refusal_some NoPosition e = absurd (omega arith)
refusal_some NotDeciding e = absurd (omega arith)
refusal_some FileLength e = absurd (omega arith)
refusal_some FileCheck e = absurd (omega arith)
refusal_some FileContent e = absurd (omega arith)
refusal_some WrongDepth e = absurd (omega arith)
refusal_some Taken e = absurd (omega arith)
refusal_some NotHere e = absurd (omega arith)

-- so it is past 0
pub refusal_number : (why : Refusal) → ltb 0 (number_of why) ≡ true
refusal_number why = go (number_of why) (refusal_some why)
  where
    go : (n : ℕ) → (n ≡ 0 → ⊥) → ltb 0 n ≡ true
    go zero h = absurd (h refl)
    go (suc n) h = lt-ltb 0 (suc n) (omega arith)

-- a value handed on where nothing refuses it
pub and_number : {T U : Type 0} (r : Result T Refusal) (x : U) → number_in (result_and r (Ok x)) ≡ number_in r
and_number (Ok _) x = refl
and_number (Err why) x = refl

pub and_value : {T U : Type 0} (r : Result T Refusal) (x : U) → IfOk (result_and r (Ok x)) (λ y. y ≡ x)
and_value (Ok _) x = refl
and_value (Err why) x = tt
