-- Laws of a list's places: what a changed or a mapped list has at each of them, past its end too.
use mathlib.Core.Path.{◌≡◌, refl, sym, ◌∙◌, ap}
use mathlib.Core.List.{List, [], ◌∷◌, map}
use Prim.Native.Nat.{ℕ, zero, suc, ◌<◌}
use native.Mathlib.Nat.{le_of_suc-le-suc, not-suc-le-zero}
use native.Mathlib.Decide.{ℕ_discrete}
use native.Mathlib.Omega.{arith}
use lib.ListN.{length, get_or, take, set, length-take}
use lib.Seq.{ext_get_or, get_or-take, get_or-set_same, get_or-set_other}

module _ {A B : Type 0} where
  -- a view of a mapped list, where the default's view stays
  pub view_map : (v : A → B) (f : A → A) (xs : List A) (i : ℕ) (d : A) → v (f d) ≡ v d → v (get_or (map f xs) i d) ≡ v (f (get_or xs i d))
  view_map v f [] i d e = sym e
  view_map v f (x ∷ xs) zero d e = refl
  view_map v f (x ∷ xs) (suc i) d e = view_map v f xs i d e

  pub map-set : (f : A → B) (xs : List A) (i : ℕ) (a : A) → map f (set xs i a) ≡ set (map f xs) i (f a)
  map-set f [] i a = refl
  map-set f (x ∷ xs) zero a = refl
  map-set f (x ∷ xs) (suc i) a = ap (λ (ys : List B). f x ∷ ys) (map-set f xs i a)

  pub map-take : (f : A → B) (n : ℕ) (xs : List A) → map f (take n xs) ≡ take n (map f xs)
  map-take f zero xs = refl
  map-take f (suc n) [] = refl
  map-take f (suc n) (x ∷ xs) = ap (λ (ys : List B). f x ∷ ys) (map-take f n xs)

module _ {A : Type 0} where
  -- below the length the default does not matter
  pub get_d_any : (xs : List A) (i : ℕ) (d e : A) → i < length xs → get_or xs i d ≡ get_or xs i e
  get_d_any [] i d e h = absurd (not-suc-le-zero h)
  get_d_any (x ∷ xs) zero d e h = refl
  get_d_any (x ∷ xs) (suc i) d e h = get_d_any xs i d e (le_of_suc-le-suc h)

  -- two lists with the same first n elements have the same at each of those places
  pub same_taken : (n : ℕ) (xs ys : List A) (d : A) → take n xs ≡ take n ys → (i : ℕ) → i < n → get_or xs i d ≡ get_or ys i d
  same_taken n xs ys d e i h = sym (get_or-take n xs i d h) ∙ ap (λ (l : List A). get_or l i d) e ∙ get_or-take n ys i d h

  pub taken-same : (n : ℕ) (xs ys : List A) (d : A) → ((i : ℕ) → i < n → get_or xs i d ≡ get_or ys i d) → length xs ≡ length ys → take n xs ≡ take n ys
  taken-same n xs ys d each same =
      ext_get_or d (take n xs) (take n ys) (simp (length-take, same)) (λ i h.
      let l : i < n = omega (arith, length-take n xs) in
      get_or-take n xs i d l ∙ each i l ∙ sym (get_or-take n ys i d l))

  -- what holds at a place, and of the element that is put into place j, holds there after the change
  pub holds-set : (P : ℕ → A → Type 0) (xs : List A) (j i : ℕ) (a d : A) → j < length xs → P j a → P i (get_or xs i d) → P i (get_or (set xs j a) i d)
  holds-set P xs j i a d h new old = go (ℕ_discrete i j)
    where
      go : Dec (i ≡ j) → P i (get_or (set xs j a) i d)
      go (yes same) = rw (same, get_or-set_same) new
      go (no other) = rw (get_or-set_other xs j i a d other) old
