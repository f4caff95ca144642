-- The project's words over a list as std's words say them, which are what its chains of iterators give: so a chain proves what a contract says by these.
use Rattle.std.proofs.Common.{◌≡◌, refl, sym, ap, ◌∙◌, Bool, true, false, not, cond, ◌||◌, ◌&&◌, List, [], ◌∷◌, map, length, ℕ, ◌+◌, ◌≤◌, ◌<◌, suc, arith}
use native.Mathlib.Decide.{dec_le}
use borrow.Author.Tests.{lt-ltb, le-ltb}
use Rattle.std.specs.Prelude.{position, unwrap_or}
use mathlib.Core.Bool.{and-true, and_assoc}
use lib.Dec.{eqb}
use lib.ListN.{take, get_or}
use lib.Pointwise.{pointwise}
use Rattle.lists.specs.Below.{all_below}
use Prim.Native.Nat.{zero}
use Rattle.std.specs.List.{fold, sum_by, list_any, list_all, position_or_len}
use Rattle.std.proofs.lemmas.List.Recursion.{is_sum_by}
use Rattle.lists.specs.Sum.{sum_of}
use Rattle.lists.specs.Tests.{any_of, all_of, first_place}

module _ {A : Type 0} where
  pub sum_of-sum_by : (f : A → ℕ) (xs : List A) → sum_of f xs ≡ sum_by f xs
  unfolding sum_of
  sum_of-sum_by f xs = is_sum_by (sum_of f) f refl (λ _ _. refl) xs

  pub any_of-list_any : (f : A → Bool) (xs : List A) → any_of f xs ≡ list_any f xs
  unfolding any_of
  any_of-list_any f [] = refl
  any_of-list_any f (x ∷ xs) = ap (λ (b : Bool). f x || b) (any_of-list_any f xs)

  pub all_of-list_all : (f : A → Bool) (xs : List A) → all_of f xs ≡ list_all f xs
  unfolding all_of
  all_of-list_all f [] = refl
  all_of-list_all f (x ∷ xs) = ap (λ (b : Bool). f x && b) (all_of-list_all f xs)

  first_place-position_or_len : (f : A → Bool) (xs : List A) → first_place f xs ≡ position_or_len f xs
  unfolding first_place
  first_place-position_or_len f [] = refl
  first_place-position_or_len f (x ∷ xs) = go (f x) (first_place-position_or_len f xs)
    where
      go : (b : Bool) → first_place f xs ≡ position_or_len f xs → cond b 0 (suc (first_place f xs)) ≡ cond (not b) (1 + position_or_len f xs) 0
      go true later = refl
      go false later = omega (arith, later)

  position_or_len_most : (f : A → Bool) (xs : List A) → position_or_len f xs ≤ length xs
  position_or_len_most f [] = omega arith
  position_or_len_most f (x ∷ xs) = go (f x) (position_or_len_most f xs)
    where
      go : (b : Bool) → position_or_len f xs ≤ length xs → cond (not b) (1 + position_or_len f xs) 0 ≤ suc (length xs)
      go true later = omega arith
      go false later = omega (arith, later)

  -- the first place, and the number of elements where none passes
  pub first_place-position : (f : A → Bool) (xs : List A) → first_place f xs ≡ unwrap_or (position f xs) (length xs)
  first_place-position f xs = rw first_place-position_or_len (go (dec_le (suc (position_or_len f xs)) (length xs)))
    where
      go : Dec (position_or_len f xs < length xs) → position_or_len f xs ≡ unwrap_or (position f xs) (length xs)
      go (yes inside) = simp (lt-ltb (position_or_len f xs) (length xs) inside)
      go (no past) = simp (le-ltb (position_or_len f xs) (length xs) (omega arith)) (omega (arith, position_or_len_most f xs))

module _ {A B : Type 0} where
  pub first_place-map : (f : B → Bool) (g : A → B) (xs : List A) → first_place f (map g xs) ≡ first_place (λ x. f (g x)) xs
  unfolding first_place
  first_place-map f g [] = refl
  first_place-map f g (x ∷ xs) = ap (λ (n : ℕ). cond (f (g x)) 0 (suc n)) (first_place-map f g xs)

-- a test of every number below is asked from the front too
below_front : (f : ℕ → Bool) (n : ℕ) → all_below f (suc n) ≡ f 0 && all_below (λ k. f (suc k)) n
unfolding all_below
below_front f zero = sym (and-true (f 0))
below_front f (suc n) = ap (λ (b : Bool). b && f (suc n)) (below_front f n) ∙ and_assoc (f 0) (all_below (λ k. f (suc k)) n) (f (suc n))

-- the first elements of a list, by their places
pub list_all-below : (p : ℕ → Bool) (n : ℕ) (xs : List ℕ) → n ≤ length xs → list_all p (take n xs) ≡ all_below (λ k. p (get_or xs k 0)) n
unfolding all_below
list_all-below p zero xs h = refl
list_all-below p (suc n) [] h = absurd (omega (arith, h))
list_all-below p (suc n) (x ∷ xs) h = ap (λ (b : Bool). p x && b) (list_all-below p n xs (omega arith)) ∙ sym (below_front (λ k. p (get_or (x ∷ xs) k 0)) n)

-- those of two lists, compared
pub pointwise-below : (n : ℕ) (xs ys : List ℕ) → n ≤ length xs → n ≤ length ys → pointwise eqb (take n xs) (take n ys) ≡ all_below (λ k. eqb (get_or xs k 0) (get_or ys k 0)) n
unfolding all_below
pointwise-below zero xs ys h l = refl
pointwise-below (suc n) [] ys h l = absurd (omega (arith, h))
pointwise-below (suc n) (x ∷ xs) [] h l = absurd (omega (arith, l))
pointwise-below (suc n) (x ∷ xs) (y ∷ ys) h l =
    ap (λ (b : Bool). eqb x y && b) (pointwise-below n xs ys (omega arith) (omega arith)) ∙ sym (below_front (λ k. eqb (get_or (x ∷ xs) k 0) (get_or (y ∷ ys) k 0)) n)

-- a fold that joins the tests without a branch
pub fold-all : (p : ℕ → Bool) (b : Bool) (xs : List ℕ) → fold (λ (all : Bool) (x : ℕ). all && p x) b xs ≡ b && list_all p xs
fold-all p b [] = sym (and-true b)
fold-all p b (x ∷ xs) = fold-all p (b && p x) xs ∙ and_assoc b (p x) (list_all p xs)
