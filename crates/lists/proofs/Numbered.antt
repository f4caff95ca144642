-- Laws of a list to which numbered elements give their parts in turn: one element more; and what only one number can have comes from its element alone.
use mathlib.Core.Path.{◌≡◌, refl, sym, ◌∙◌, ap}
use mathlib.Core.Bool.{Bool, true, false, cond}
use mathlib.Core.List.{List, [], ◌∷◌, ◌++◌, append_assoc, append-nil}
use Prim.Native.Nat.{ℕ, zero, suc, ◌+◌, ◌<◌}
use native.Mathlib.Nat.{le_of_suc-le-suc, not-suc-le-zero}
use native.Mathlib.Numerals.{add-one}
use native.Mathlib.Omega.{arith}
use borrow.Author.Tests.{lt-ltb, le-ltb}
use lib.Dec.{ltb}
use lib.ListN.{length, take, get_or}
use Rattle.lists.specs.Tests.{those}
use Rattle.lists.proofs.Tests.{ltb_same}

module _ {A : Type 0} where
  those-cons : (b : Bool) (x : A) (xs ys : List A) → cond b (x ∷ (xs ++ ys)) (xs ++ ys) ≡ cond b (x ∷ xs) xs ++ ys
  those-cons true x xs ys = refl
  those-cons false x xs ys = refl

  pub those-append : (f : A → Bool) (xs ys : List A) → those f (xs ++ ys) ≡ those f xs ++ those f ys
  unfolding those
  those-append f [] ys = refl
  those-append f (x ∷ xs) ys = rw (those-append f xs ys) (those-cons (f x) x (those f xs) (those f ys))

module _ {A B : Type 0} (all : ℕ → List A → List B) (one : ℕ → A → List B) (none : (i : ℕ) → all i [] ≡ []) (more : (i : ℕ) (x : A) (xs : List A) → all i (x ∷ xs) ≡ one i x ++ all (suc i) xs) where
  numbered-take : (k i : ℕ) (xs : List A) (d : A) → k < length xs → all i (take (suc k) xs) ≡ all i (take k xs) ++ one (i + k) (get_or xs k d)
  numbered-take k i [] d h = absurd (not-suc-le-zero h)
  numbered-take zero i (x ∷ xs) d h =
      let same : i ≡ i + 0 = omega arith in
      more i x [] ∙ rw (none (suc i), none i) (append-nil (one i x) ∙ ap (λ (n : ℕ). one n x) same)
  numbered-take (suc k) i (x ∷ xs) d h =
      let same : suc i + k ≡ i + suc k = omega arith in
      more i x (take (suc k) xs)
      ∙ rw (numbered-take k (suc i) xs d (le_of_suc-le-suc h), more i x (take k xs), same)
      (sym (append_assoc (one i x) (all (suc i) (take k xs)) (one (i + suc k) (get_or xs k d))))

  -- the first k + 1 elements: the first k, and the one at k
  pub numbered_next : (k : ℕ) (xs : List A) (d : A) → k < length xs → all 0 (take (k + 1) xs) ≡ all 0 (take k xs) ++ one k (get_or xs k d)
  numbered_next k xs d h =
      let same : 0 + k ≡ k = omega arith in
      ap (λ (n : ℕ). all 0 (take n xs)) (add-one k) ∙ numbered-take k 0 xs d h ∙ ap (λ (n : ℕ). all 0 (take k xs) ++ one n (get_or xs k d)) same

  -- what only the element of number n can have
  module _ (test : B → Bool) (n : ℕ) (other : (j : ℕ) (x : A) → (j ≡ n → ⊥) → those test (one j x) ≡ []) where
    those-past : (i : ℕ) (xs : List A) → n < i → those test (all i xs) ≡ []
    unfolding those
    those-past i [] h = rw none
    those-past i (x ∷ xs) h =
        ap (those test) (more i x xs) ∙ those-append test (one i x) (all (suc i) xs)
        ∙ rw (other i x (λ same. omega arith), those-past (suc i) xs (omega arith))

    those-from : (k i : ℕ) (xs : List A) (d : A) → i + k ≡ n → those test (all i xs) ≡ cond (ltb k (length xs)) (those test (one n (get_or xs k d))) []
    unfolding those
    those-from k i [] d e = rw (none, le-ltb k 0 (omega arith))
    those-from zero i (x ∷ xs) d e =
        let same : i ≡ n = omega arith in
        ap (those test) (more i x xs) ∙ those-append test (one i x) (all (suc i) xs)
        ∙ rw (those-past (suc i) xs (omega arith), same, lt-ltb 0 (suc (length xs)) (omega arith)) (append-nil (those test (one n x)))
    those-from (suc k) i (x ∷ xs) d e =
        let step : ltb (suc k) (suc (length xs)) ≡ ltb k (length xs) = ltb_same (suc k) (suc (length xs)) k (length xs) (λ h. omega arith) (λ h. omega arith) in
        ap (those test) (more i x xs) ∙ those-append test (one i x) (all (suc i) xs)
        ∙ rw (other i x (λ same. omega arith), step) (those-from k (suc i) xs d (omega arith))

    pub those_numbered : (xs : List A) (d : A) → those test (all 0 xs) ≡ cond (ltb n (length xs)) (those test (one n (get_or xs n d))) []
    those_numbered xs d = those-from n 0 xs d (omega arith)
