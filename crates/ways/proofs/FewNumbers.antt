-- The number of a step stands in the papers' sequence, so that it is 0 or a refusal has it.
use mathlib.Core.Path.{◌≡◌, refl, sym, ◌∙◌}
use mathlib.Core.Bool.{Bool, true, false, ◌&&◌, and-eq-true_iff, true≢false}
use mathlib.Core.List.{List, [], ◌∷◌}
use Prim.Native.Nat.{ℕ, zero, suc, ◌≤◌, ◌<◌}
use native.Mathlib.Omega.{arith}
use lib.Dec.{ltb, leb, eqb}
use lib.ListN.{length}
use borrow.Author.Tests.{eqb-true, leb-true}
use Rattle.lists.specs.Tests.{any_of, all_of}
use Rattle.lists.proofs.Tests.{first_inside}
use Rattle.call.specs.declared.Call.{Call}
use Rattle.call.specs.Refusal.{Condition, first}
use Rattle.table.specs.declared.Table.{Table}
use Rattle.answer.specs.Reply.{reply_by}
use Rattle.engine.specs.Step.{step, number, conditions}
use Rattle.engine.specs.LowestFirst.{sequence, place_in, in_sequence}
use Rattle.engine.proofs.LowestFirst.{lowest_first}

among : (n : ℕ) (ks : List ℕ) → all_of (λ k. leb k 29) ks ≡ true → any_of (λ k. eqb k n) ks ≡ true → n ≤ 29
unfolding any_of all_of
among n [] few some = absurd (true≢false (sym some))
among n (k ∷ ks) few some =
    let (here, later) = (and-eq-true_iff (leb k 29) (all_of (λ j. leb j 29) ks)).0 few in
    go (eqb k n) refl here (among n ks later)
  where
    go : (b : Bool) → eqb k n ≡ b → leb k 29 ≡ true → (any_of (λ j. eqb j n) ks ≡ true → n ≤ 29) → n ≤ 29
    go true e here others = omega (arith, eqb-true k n e, leb-true k 29 here)
    go false e here others = others (simp e at some)

sequence-few : (least : ℕ) (cs : List Condition) → in_sequence least cs ≡ true → first cs ≤ 29
unfolding first in_sequence any_of all_of
sequence-few least [] e = omega arith
sequence-few least ((n, b) ∷ cs) e =
    let (both, later) = (and-eq-true_iff (leb least (place_in n) && ltb (place_in n) (length sequence)) (in_sequence (place_in n) cs)).0 e in
    let inside = ((and-eq-true_iff (leb least (place_in n)) (ltb (place_in n) (length sequence))).0 both).1 in
    go b (among n sequence refl (sym (first_inside (λ k. eqb k n) sequence) ∙ inside)) (sequence-few (place_in n) cs later)
  where
    go : (b : Bool) → n ≤ 29 → first cs ≤ 29 → first ((n, b) ∷ cs) ≤ 29
    go true here later = here
    go false here later = later

number_few : (t : Table) (c : Call) (order : List ℕ) → number t c order ≤ 29
unfolding number step reply_by
number_few t c order = sequence-few 0 (conditions t c order) (lowest_first t c order).in_sequence_lem

-- where no refusal has it, the call is accepted
pub none_refused : (t : Table) (c : Call) (order : List ℕ) (n : ℕ) → n ≡ number t c order → (0 < n → 29 < n) → number t c order ≡ 0
none_refused t c order n same past = sym same ∙ go n (omega (arith, same, number_few t c order)) past
  where
    go : (k : ℕ) → k ≤ 29 → (0 < k → 29 < k) → k ≡ 0
    go zero few past = refl
    go (suc k) few past = absurd (omega (arith, past (omega arith)))
