-- Laws of counts: how often the numbers below a number stand in a list, taken together.
use mathlib.Core.Path.{◌≡◌, refl, sym}
use mathlib.Core.Bool.{true, and-eq-true_iff}
use mathlib.Core.List.{List, [], ◌∷◌}
use Prim.Native.Nat.{ℕ, zero, suc, ◌+◌, ◌*◌, ◌≤◌, ◌<◌}
use native.Mathlib.Nat.{zero-mul, suc-mul}
use native.Mathlib.Decide.{dec_le}
use native.Mathlib.Omega.{arith}
use borrow.Author.Tests.{lt-ltb, ne_eqb}
use lib.Dec.{ltb, eqb}
use lib.ListN.{length}
use Rattle.lists.specs.Sum.{sum_of, is_it, count_of}
use Rattle.lists.specs.Tests.{all_of}
use Rattle.lists.specs.Below.{sum_below}
use Rattle.lists.proofs.Picks.{cond_most}

-- the same number for each
pub sum_below-each : (f : ℕ → ℕ) (n k : ℕ) → ((i : ℕ) → i < n → f i ≡ k) → sum_below f n ≡ n * k
unfolding sum_below
sum_below-each f zero k h = sym (zero-mul k)
sum_below-each f (suc n) k h = omega (arith, suc-mul n k, sum_below-each f n k (λ i l. h i (omega arith)), h n (omega arith))

sum_below-plus : (f g : ℕ → ℕ) (n : ℕ) → sum_below (λ k. f k + g k) n ≡ sum_below f n + sum_below g n
unfolding sum_below
sum_below-plus f g zero = refl
sum_below-plus f g (suc n) = omega (arith, sum_below-plus f g n)

-- a number is one of those below at most once, and none of them where it is above them
it_above : (x n : ℕ) → n ≤ x → sum_below (λ k. is_it k x) n ≡ 0
unfolding sum_below
it_above x zero h = refl
it_above x (suc n) h = rw (ne_eqb x n (λ e. omega arith)) (omega (arith, it_above x n (omega arith)))

it_most : (x n : ℕ) → sum_below (λ k. is_it k x) n ≤ 1
unfolding sum_below
it_most x zero = omega arith
it_most x (suc n) = go (dec_le n x) (it_most x n)
  where
    here : is_it n x ≤ 1
    here = cond_most (eqb x n) (omega arith) (omega arith)

    go : Dec (n ≤ x) → sum_below (λ k. is_it k x) n ≤ 1 → sum_below (λ k. is_it k x) n + is_it n x ≤ 1
    go (yes le) rec = omega (arith, it_above x n le, here)
    go (no gt) rec = rw (ne_eqb x n (λ e. omega arith)) (omega arith)

counts_cons : (x : ℕ) (xs : List ℕ) (n : ℕ) → sum_below (λ k. count_of k (x ∷ xs)) n ≡ sum_below (λ k. is_it k x) n + sum_below (λ k. count_of k xs) n
unfolding sum_of
counts_cons x xs n = sum_below-plus (λ k. is_it k x) (λ k. count_of k xs) n

counts-most : (xs : List ℕ) (n : ℕ) → sum_below (λ k. count_of k xs) n ≤ length xs
unfolding sum_of
counts-most [] n = omega (arith, sum_below-each (λ k. 0) n 0 (λ i l. refl))
counts-most (x ∷ xs) n = omega (arith, counts_cons x xs n, it_most x n, counts-most xs n)

-- where the numbers below make up the list, there is none above
pub counts_all : (xs : List ℕ) (n : ℕ) → sum_below (λ k. count_of k xs) n ≡ length xs → all_of (λ x. ltb x n) xs ≡ true
unfolding all_of
counts_all [] n h = refl
counts_all (x ∷ xs) n h = (and-eq-true_iff (ltb x n) (all_of (λ y. ltb y n) xs)).1 (lt-ltb x n (go (dec_le n x)), counts_all xs n (omega (arith, counts_cons x xs n, it_most x n, counts-most xs n)))
  where
    go : Dec (n ≤ x) → x < n
    go (yes le) = absurd (omega (arith, counts_cons x xs n, it_above x n le, counts-most xs n))
    go (no gt) = omega arith
