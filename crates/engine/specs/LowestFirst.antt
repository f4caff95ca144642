-- Document 01, "Who can bring about which number": lowest number first. What a step answers, read off its call's list of conditions, both ways.
use Rattle.std.specs.Prelude.{◌≡◌, Bool, true, false, ◌&&◌, List, [], ◌∷◌, ℕ, leb, ltb, eqb, length}
use Rattle.lists.specs.Tests.{any_of, first_place}
use Rattle.call.specs.declared.Call.{Call}
use Rattle.call.specs.Refusal.{Condition, holds, FirstAt}
use Rattle.table.specs.declared.Table.{Table}
use Rattle.engine.specs.Step.{conditions, number}

-- The paper's sequence of numbers; 21 (request 2.6) and 22 stand behind 8, 23 behind 11 (request 2.8), 19 and 20 in the place of 13 (request 2.5).
abbrev pub sequence : List ℕ
sequence = 1 ∷ 2 ∷ 3 ∷ 4 ∷ 5 ∷ 6 ∷ 7 ∷ 8 ∷ 21 ∷ 22 ∷ 9 ∷ 10 ∷ 11 ∷ 23 ∷ 12 ∷ 13 ∷ 19 ∷ 20 ∷ 14 ∷ 15 ∷ 16 ∷ 17 ∷ 18 ∷ []

-- The place of a number in it.
abbrev pub place_in : ℕ → ℕ
place_in n = first_place (λ k. eqb k n) sequence

-- Every number of the list stands in the sequence, at `least` or behind it, and none before one that precedes it in the list.
unfoldable pub in_sequence : ℕ → List Condition → Bool
in_sequence least [] = true
in_sequence least (c ∷ cs) = leb least (place_in c.0) && ltb (place_in c.0) (length sequence) && in_sequence (place_in c.0) cs

-- What is claimed of every table, call and lent order.
pub record LowestFirst (t : Table) (c : Call) (order : List ℕ) : Type 0 where
  -- the call's numbers stand in the paper's sequence
  pub in_sequence_lem : in_sequence 0 (conditions t c order) ≡ true
  -- the answer is n, no 0, exactly if the condition of n holds and none before it
  pub answer_stands : (n : ℕ) → (n ≡ 0 → ⊥) → number t c order ≡ n → FirstAt (conditions t c order) n
  pub stands_answered : (n : ℕ) → FirstAt (conditions t c order) n → number t c order ≡ n
  -- it is 0 exactly if none holds
  pub accepted_none : number t c order ≡ 0 → any_of holds (conditions t c order) ≡ false
  pub none_accepted : any_of holds (conditions t c order) ≡ false → number t c order ≡ 0
