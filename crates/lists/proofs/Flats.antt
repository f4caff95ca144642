-- Laws of one list of several: of a mapped list, and the lists of the first elements.
use mathlib.Core.Path.{◌≡◌, refl, sym, ◌∙◌, ap}
use mathlib.Core.List.{List, [], ◌∷◌, ◌++◌, map, append_assoc, append-nil}
use Prim.Native.Nat.{ℕ, zero, suc, ◌+◌, ◌<◌}
use native.Mathlib.Nat.{le_of_suc-le-suc, not-suc-le-zero}
use native.Mathlib.Numerals.{add-one}
use lib.ListN.{length, take, get_or}
use Rattle.lists.specs.Flat.{flat}

module _ {A B C : Type 0} where
  pub flat_map : (f : B → List C) (g : A → B) (xs : List A) → flat f (map g xs) ≡ flat (λ x. f (g x)) xs
  unfolding flat
  flat_map f g [] = refl
  flat_map f g (x ∷ xs) = ap (λ (ys : List C). f (g x) ++ ys) (flat_map f g xs)

module _ {A B : Type 0} where
  flat-take : (f : A → List B) (xs : List A) (i : ℕ) (d : A) → i < length xs → flat f (take (suc i) xs) ≡ flat f (take i xs) ++ f (get_or xs i d)
  unfolding flat
  flat-take f [] i d h = absurd (not-suc-le-zero h)
  flat-take f (x ∷ xs) zero d h = append-nil (f x)
  flat-take f (x ∷ xs) (suc i) d h = ap (λ (ys : List B). f x ++ ys) (flat-take f xs i d (le_of_suc-le-suc h)) ∙ sym (append_assoc (f x) (flat f (take i xs)) (f (get_or xs i d)))

  -- the first i + 1 elements: the first i, and the one at i
  pub flat-next : (f : A → List B) (xs : List A) (i : ℕ) (d : A) → i < length xs → flat f (take (i + 1) xs) ≡ flat f (take i xs) ++ f (get_or xs i d)
  flat-next f xs i d h = ap (λ (n : ℕ). flat f (take n xs)) (add-one i) ∙ flat-take f xs i d h
