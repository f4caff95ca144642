-- Laws of two elements put in the place of one: the elements behind it move up by one.
use mathlib.Core.Path.{◌≡◌, refl, ap}
use mathlib.Core.List.{List, [], ◌∷◌, ◌++◌, map}
use Prim.Native.Nat.{ℕ, zero, suc, ◌+◌, ◌<◌, suc-le-suc, zero-le}
use native.Mathlib.Nat.{le_of_suc-le-suc, not-suc-le-zero}
use native.Mathlib.Omega.{arith}
use lib.ListN.{length, get_or, take, drop}
use lib.Seq.{take-nil}
use Rattle.lists.specs.Sum.{sum_of}

-- the list with a and b for what stands at p
abbrev pub two-for : {A : Type 0} → List A → ℕ → A → A → List A
two-for xs p a b = take p xs ++ a ∷ b ∷ drop (suc p) xs

module _ {A : Type 0} where
  -- the first elements of it come from the first elements of the list
  pub take-two_for : (xs : List A) (p n : ℕ) (a b : A) → p < n → take (suc n) (two-for xs p a b) ≡ two-for (take n xs) p a b
  take-two_for [] zero (suc n) a b h = ap (λ (ys : List A). a ∷ b ∷ ys) (take-nil n)
  take-two_for [] (suc p) (suc n) a b h = ap (λ (ys : List A). a ∷ b ∷ ys) (take-nil n)
  take-two_for (x ∷ xs) zero (suc n) a b h = refl
  take-two_for (x ∷ xs) (suc p) (suc n) a b h = ap (λ (ys : List A). x ∷ ys) (take-two_for xs p n a b (le_of_suc-le-suc h))
  take-two_for xs p zero a b h = absurd (not-suc-le-zero h)

  pub length-two_for : (xs : List A) (p : ℕ) (a b : A) → p < length xs → length (two-for xs p a b) ≡ suc (length xs)
  length-two_for [] p a b h = absurd (not-suc-le-zero h)
  length-two_for (x ∷ xs) zero a b h = refl
  length-two_for (x ∷ xs) (suc p) a b h = ap suc (length-two_for xs p a b (le_of_suc-le-suc h))

  pub sum-two_for : (f : A → ℕ) (xs : List A) (p : ℕ) (a b d : A) → p < length xs → sum_of f (two-for xs p a b) + f (get_or xs p d) ≡ sum_of f xs + f a + f b
  unfolding sum_of
  sum-two_for f [] p a b d h = absurd (not-suc-le-zero h)
  sum-two_for f (x ∷ xs) zero a b d h = omega arith
  sum-two_for f (x ∷ xs) (suc p) a b d h = omega (arith, sum-two_for f xs p a b d (le_of_suc-le-suc h))

  -- what holds of the first n elements and of the two, holds of the first n + 1
  pub holds-two_for : (P : A → Type 0) (xs : List A) (p n : ℕ) (a b d : A) → p < length xs → p < n → P a → P b
      → ((i : ℕ) → i < n → P (get_or xs i d)) → (i : ℕ) → i < suc n → P (get_or (two-for xs p a b) i d)
  holds-two_for P [] p n a b d h m pa pb each i l = absurd (not-suc-le-zero h)
  holds-two_for P (x ∷ xs) zero n a b d h m pa pb each zero l = pa
  holds-two_for P (x ∷ xs) zero n a b d h m pa pb each (suc zero) l = pb
  holds-two_for P (x ∷ xs) zero n a b d h m pa pb each (suc (suc i)) l = each (suc i) (le_of_suc-le-suc l)
  holds-two_for P (x ∷ xs) (suc p) zero a b d h m pa pb each i l = absurd (not-suc-le-zero m)
  holds-two_for P (x ∷ xs) (suc p) (suc n) a b d h m pa pb each zero l = each 0 (suc-le-suc zero-le)
  holds-two_for P (x ∷ xs) (suc p) (suc n) a b d h m pa pb each (suc i) l =
      holds-two_for P xs p n a b d (le_of_suc-le-suc h) (le_of_suc-le-suc m) pa pb (λ k k<n. each (suc k) (suc-le-suc k<n)) i (le_of_suc-le-suc l)

module _ {A B : Type 0} where
  pub map-two_for : (f : A → B) (xs : List A) (p : ℕ) (a b : A) → map f (two-for xs p a b) ≡ two-for (map f xs) p (f a) (f b)
  map-two_for f [] zero a b = refl
  map-two_for f [] (suc p) a b = refl
  map-two_for f (x ∷ xs) zero a b = refl
  map-two_for f (x ∷ xs) (suc p) a b = ap (λ (ys : List B). f x ∷ ys) (map-two_for f xs p a b)
