-- Laws of tests and sums over the numbers below a number, and of the first that passes.
use mathlib.Core.Path.{◌≡◌, refl, ap, ap₂, ◌∙◌, sym}
use mathlib.Core.Bool.{Bool, true, false, ◌&&◌, and-eq-true_iff, and-true}
use mathlib.Core.List.{List, [], ◌∷◌}
use Prim.Native.Nat.{ℕ, zero, suc, ◌+◌, ◌≤◌, ◌<◌}
use native.Mathlib.Nat.{not-suc-le-zero, add-zero, add-suc}
use native.Mathlib.Numerals.{add-one}
use native.Mathlib.Decide.{dec_le}
use native.Mathlib.Omega.{arith}
use lib.ListN.{length, get_or}
use borrow.Author.Tests.{lt-ltb, le-ltb}
use Rattle.lists.specs.Sum.{sum_of}
use Rattle.lists.specs.Below.{all_below, sum_below, first_below}

-- what every number below passes, one of them passes
pub all_below_lem : (f : ℕ → Bool) (n k : ℕ) → all_below f n ≡ true → k < n → f k ≡ true
unfolding all_below
all_below_lem f zero k t h = absurd (not-suc-le-zero h)
all_below_lem f (suc n) k t h = go (dec_le n k) (λ l. all_below_lem f n k both.0 l)
  where
    both : (all_below f n ≡ true) × (f n ≡ true)
    both = (and-eq-true_iff (all_below f n) (f n)).0 t

    go : Dec (n ≤ k) → (k < n → f k ≡ true) → f k ≡ true
    go (yes l) rec = let same : k ≡ n = omega arith in ap f same ∙ both.1
    go (no l) rec = rec (omega arith)

pub below_all : (f : ℕ → Bool) (n : ℕ) → ((k : ℕ) → k < n → f k ≡ true) → all_below f n ≡ true
unfolding all_below
below_all f zero h = refl
below_all f (suc n) h = (and-eq-true_iff (all_below f n) (f n)).1 (below_all f n (λ k l. h k (omega arith)), h n (omega arith))

-- one number more, and where it passes those below it decide
pub below_one_more : (f : ℕ → Bool) (n : ℕ) → all_below f (n + 1) ≡ all_below f n && f n
unfolding all_below
below_one_more f n = ap (all_below f) (add-one n)

pub below_passes : (f : ℕ → Bool) (n : ℕ) → f n ≡ true → all_below f (n + 1) ≡ all_below f n
below_passes f n e = below_one_more f n ∙ ap (λ (b : Bool). all_below f n && b) e ∙ and-true (all_below f n)

-- equal tests below decide the same
pub all_below-same : (f g : ℕ → Bool) (n : ℕ) → ((k : ℕ) → k < n → f k ≡ g k) → all_below f n ≡ all_below g n
unfolding all_below
all_below-same f g zero h = refl
all_below-same f g (suc n) h = ap₂ ◌&&◌ (all_below-same f g n (λ k l. h k (omega arith))) (h n (omega arith))

-- equal numbers below have equal sums
pub sum_below-same : (f g : ℕ → ℕ) (n : ℕ) → ((k : ℕ) → k < n → f k ≡ g k) → sum_below f n ≡ sum_below g n
unfolding sum_below
sum_below-same f g zero h = refl
sum_below-same f g (suc n) h = omega (arith, sum_below-same f g n (λ k l. h k (omega arith)), h n (omega arith))

-- zeros behind add nothing
pub sum_below_more : (f : ℕ → ℕ) (n k : ℕ) → ((i : ℕ) → n ≤ i → f i ≡ 0) → sum_below f (n + k) ≡ sum_below f n
unfolding sum_below
sum_below_more f n zero h = rw add-zero
sum_below_more f n (suc k) h = rw add-suc (omega (arith, sum_below_more f n k h, h (n + k) (omega arith)))

-- the first number apart
sum_below-first : (f : ℕ → ℕ) (n : ℕ) → sum_below f (suc n) ≡ f 0 + sum_below (λ k. f (suc k)) n
unfolding sum_below
sum_below-first f zero = omega arith
sum_below-first f (suc n) = omega (arith, sum_below-first f n)

-- a sum over a list, by place
pub sum_by_place : {A : Type 0} (f : A → ℕ) (xs : List A) (d : A) → sum_of f xs ≡ sum_below (λ i. f (get_or xs i d)) (length xs)
unfolding sum_of sum_below
sum_by_place f [] d = refl
sum_by_place f (x ∷ xs) d = ap (λ (n : ℕ). f x + n) (sum_by_place f xs d) ∙ sym (sum_below-first (λ i. f (get_or (x ∷ xs) i d)) (length xs))

-- where no number below passes, the first is the number itself
below_none : (f : ℕ → Bool) (n : ℕ) → ((k : ℕ) → k < n → f k ≡ false) → first_below f n ≡ n
unfolding first_below
below_none f zero none = refl
below_none f (suc n) none = simp (below_none f n (λ k l. none k (omega arith)), le-ltb n n (omega arith), none n (omega arith))

-- nothing below j passes, and j does
pub first_below_lem : (f : ℕ → Bool) (n j : ℕ) → j < n → ((k : ℕ) → k < j → f k ≡ false) → f j ≡ true → first_below f n ≡ j
unfolding first_below
first_below_lem f zero j h none here = absurd (not-suc-le-zero h)
first_below_lem f (suc n) j h none here = go (dec_le n j) (λ l. first_below_lem f n j l none here)
  where
    go : Dec (n ≤ j) → (j < n → first_below f n ≡ j) → first_below f (suc n) ≡ j
    go (yes l) rec =
        let same : n ≡ j = omega arith in
        simp (below_none f n (λ k l. none k (omega arith)), le-ltb n n (omega arith), ap f same ∙ here) same
    go (no l) rec = simp (rec (omega arith), lt-ltb j n (omega arith))
