-- Request 2.11: each lawful list stands once in the list of ways and none is missing, they stand in order, and what close says of a table.
use Rattle.std.specs.Prelude.{◌≡◌, Bool, true, false, cond, not, ◌&&◌, ◌||◌, List, [], ◌∷◌, ℕ, ltb, eqb}
use Rattle.lists.specs.Sum.{sum_of}
use Rattle.lists.specs.Tests.{all_of}
use Rattle.call.specs.declared.Call.TheVariants.{Close}
use Rattle.table.specs.declared.Table.{Table}
use Rattle.table.specs.Table.{is_dealt}
use Rattle.table.specs.Broken.{broken}
use Rattle.state.specs.Turn.{any_waits}
use Rattle.engine.specs.Step.{number}
use Rattle.ways.specs.Lawful.{lawful}
use Rattle.ways.specs.Ways.{ways}

-- Two lists of decisions are the same.
unfoldable pub same_list : List ℕ → List ℕ → Bool
same_list [] [] = true
same_list [] (y ∷ ys) = false
same_list (x ∷ xs) [] = false
same_list (x ∷ xs) (y ∷ ys) = eqb x y && same_list xs ys

-- How often a list stands among others.
abbrev pub times_in : List ℕ → List (List ℕ) → ℕ
times_in one lists = sum_of (λ other. cond (same_list one other) 1 0) lists

-- Each stands once and none is missing: a list of numbers stands there once if it is lawful, else not at all.
abbrev pub EachOnce : Table → Type 0
EachOnce t = (decisions : List ℕ) → times_in decisions (ways t) ≡ cond (lawful t decisions) 1 0

-- By first difference: up to some place both are the same, and there this one has the earlier decision. A list never goes on where another has ended.
unfoldable pub comes_before : List ℕ → List ℕ → Bool
comes_before [] ys = false
comes_before (x ∷ xs) [] = false
comes_before (x ∷ xs) (y ∷ ys) = ltb x y || eqb x y && comes_before xs ys

-- Each stands before all that follow it.
unfoldable pub in_order : List (List ℕ) → Bool
in_order [] = true
in_order (one ∷ others) = all_of (comes_before one) others && in_order others

abbrev pub InOrder : Table → Type 0
InOrder t = in_order (ways t) ≡ true

-- On a table that is not broken, with a dealt round, close gives 7 exactly if a hand waits, and 0 exactly if none waits and it does not give 18.
pub record CloseSays (t : Table) : Type 0 where
  pub seven : eqb (number t Close []) 7 ≡ any_waits t
  pub none : eqb (number t Close []) 0 ≡ not (any_waits t) && not (eqb (number t Close []) 18)

abbrev pub CloseTells : Table → Type 0
CloseTells t = broken t ≡ false → is_dealt t ≡ true → CloseSays t
