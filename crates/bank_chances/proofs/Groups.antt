-- Sums by group: what a number of each element gives, added up number by number.
use mathlib.Core.Path.{◌≡◌, refl, sym, ◌∙◌, ap}
use mathlib.Core.List.{List, [], ◌∷◌}
use Prim.Native.Nat.{ℕ, zero, suc, ◌+◌, ◌*◌, ◌≤◌, ◌<◌}
use native.Mathlib.Nat.{zero-mul, suc-mul, one-mul, mul-zero, add-mul, not-suc-le-zero}
use native.Mathlib.Decide.{ℕ_discrete}
use native.Mathlib.Omega.{arith}
use borrow.Author.Tests.{eq-eqb, ne_eqb}
use lib.ListN.{length, replicate}
use Rattle.lists.specs.Below.{sum_below}
use Rattle.lists.specs.Sum.{sum_of, is_it}
use Rattle.lists.proofs.Counts.{sum_below-each}

-- the number itself, and another one
pub is_it_lem : (n x : ℕ) → x ≡ n → is_it n x ≡ 1
is_it_lem n x same = rw (eq-eqb x n same)

pub is_not : (n x : ℕ) → (x ≡ n → ⊥) → is_it n x ≡ 0
is_not n x other = rw (ne_eqb x n other)

-- of the numbers below only x counts
none_below : (g : ℕ → ℕ) (x m : ℕ) → m ≤ x → sum_below (λ p. is_it p x * g p) m ≡ 0
unfolding sum_below
none_below g x zero h = refl
none_below g x (suc m) h = rw (is_not m x (λ same. omega arith)) (omega (arith, none_below g x m (omega arith), zero-mul (g m)))

one_below : (g : ℕ → ℕ) (x m : ℕ) → x < m → sum_below (λ p. is_it p x * g p) m ≡ g x
unfolding sum_below
one_below g x zero h = absurd (not-suc-le-zero h)
one_below g x (suc m) h = go (ℕ_discrete x m) (λ l. one_below g x m l)
  where
    go : Dec (x ≡ m) → (x < m → sum_below (λ p. is_it p x * g p) m ≡ g x) → sum_below (λ p. is_it p x * g p) m + is_it m x * g m ≡ g x
    go (yes same) rec = rw (is_it_lem m x same) (omega (arith, none_below g x m (omega arith), one-mul (g m), ap g same))
    go (no other) rec = rw (is_not m x other) (omega (arith, rec (omega arith), zero-mul (g m)))

one_more : (g s : ℕ → ℕ) (x m : ℕ) → sum_below (λ p. (is_it p x + s p) * g p) m ≡ sum_below (λ p. is_it p x * g p) m + sum_below (λ p. s p * g p) m
unfolding sum_below
one_more g s x zero = refl
one_more g s x (suc m) = omega (arith, one_more g s x m, add-mul (is_it m x) (s m) (g m))

module _ {A : Type 0} where
  pub sum-each : (c : ℕ) (xs : List A) → sum_of (λ x. c) xs ≡ length xs * c
  unfolding sum_of
  sum-each c [] = sym (zero-mul c)
  sum-each c (x ∷ xs) = omega (arith, suc-mul (length xs) c, sum-each c xs)

  pub sum_same : (f g : A → ℕ) → ((x : A) → f x ≡ g x) → (xs : List A) → sum_of f xs ≡ sum_of g xs
  unfolding sum_of
  sum_same f g h [] = refl
  sum_same f g h (x ∷ xs) = omega (arith, h x, sum_same f g h xs)

  -- as often as it stands there
  pub sum-replicate : (f : A → ℕ) (n : ℕ) (x : A) → sum_of f (replicate n x) ≡ n * f x
  unfolding sum_of
  sum-replicate f zero x = sym (zero-mul (f x))
  sum-replicate f (suc n) x = omega (arith, suc-mul n (f x), sum-replicate f n x)

  -- by group: for each number below m, as often as an element has it
  pub sum_by_group : (f : A → ℕ) (g : ℕ → ℕ) (m : ℕ) → ((x : A) → f x < m) → (xs : List A) → sum_of (λ x. g (f x)) xs ≡ sum_below (λ p. sum_of (λ x. is_it p (f x)) xs * g p) m
  unfolding sum_of
  sum_by_group f g m h [] = sym (sum_below-each (λ p. 0 * g p) m 0 (λ i l. zero-mul (g i)) ∙ mul-zero m)
  sum_by_group f g m h (x ∷ xs) =
      omega (arith, sum_by_group f g m h xs, one_below g (f x) m (h x), one_more g (λ p. sum_of (λ y. is_it p (f y)) xs) (f x) m)
