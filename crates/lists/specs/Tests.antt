-- Tests over a list: some element, every element, those that pass, and the place of the first.
use Rattle.std.specs.Prelude.{Bool, true, false, cond, ◌&&◌, ◌||◌, List, [], ◌∷◌, ℕ, suc}

module _ {A : Type 0} where
  -- some element passes
  unfoldable pub any_of : (A → Bool) → List A → Bool
  any_of f [] = false
  any_of f (x ∷ xs) = f x || any_of f xs

  -- every element passes
  unfoldable pub all_of : (A → Bool) → List A → Bool
  all_of f [] = true
  all_of f (x ∷ xs) = f x && all_of f xs

  -- the elements that pass, in their order
  unfoldable pub those : (A → Bool) → List A → List A
  those f [] = []
  those f (x ∷ xs) = cond (f x) (x ∷ those f xs) (those f xs)

  -- the place of the first element that passes, from 0; the length where none does
  unfoldable pub first_place : (A → Bool) → List A → ℕ
  first_place f [] = 0
  first_place f (x ∷ xs) = cond (f x) 0 (suc (first_place f xs))
