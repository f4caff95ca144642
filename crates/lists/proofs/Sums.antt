-- Laws of sums: over an appended, a mapped, a flattened and a changed list, and bounds from a bound on each element, by a number or by another sum.
use mathlib.Core.Path.{◌≡◌, refl, ◌∙◌, ap}
use mathlib.Core.Bool.{Bool, false, ◌||◌}
use mathlib.Core.List.{List, [], ◌∷◌, ◌++◌, map}
use Prim.Native.Nat.{ℕ, zero, suc, ◌+◌, ◌*◌, ◌≤◌, ◌<◌, min, suc-le-suc}
use native.Mathlib.Decide.{dec_le}
use native.Mathlib.Omega.{arith}
use native.Mathlib.Nat.{le_of_suc-le-suc, not-suc-le-zero}
use lib.Dec.{ltb}
use lib.ListN.{length, take, get_or, set}
use lib.Seq.{take-suc}
use borrow.Author.Tests.{lt-ltb, le-ltb}
use Rattle.lists.specs.Sum.{sum_of}
use Rattle.lists.specs.Tests.{any_of}
use Rattle.lists.specs.Flat.{flat}
use Rattle.lists.proofs.Tests.{or_eq_false, ltb_same}

-- of two numbers one is more than 0 exactly if their sum is
some_plus : (a b : ℕ) → ltb 0 a || ltb 0 b ≡ ltb 0 (a + b)
some_plus a b = go (dec_le 1 a)
  where
    go : Dec (0 < a) → ltb 0 a || ltb 0 b ≡ ltb 0 (a + b)
    go (yes h) = simp (lt-ltb 0 a h, lt-ltb 0 (a + b) (omega arith))
    go (no h) = simp (le-ltb 0 a (omega arith)) (ltb_same 0 b 0 (a + b) (λ k. omega arith) (λ k. omega arith))

module _ {A : Type 0} where
  pub sum-append : (f : A → ℕ) (xs ys : List A) → sum_of f (xs ++ ys) ≡ sum_of f xs + sum_of f ys
  unfolding sum_of
  sum-append f [] ys = omega arith
  sum-append f (x ∷ xs) ys = omega (arith, sum-append f xs ys)

  pub sum_one : (f : A → ℕ) (x : A) → sum_of f (x ∷ []) ≡ f x
  unfolding sum_of
  sum_one f x = omega arith

  pub sum_snoc : (f : A → ℕ) (xs : List A) (x : A) → sum_of f (xs ++ (x ∷ [])) ≡ sum_of f xs + f x
  sum_snoc f xs x = omega (arith, sum-append f xs (x ∷ []), sum_one f x)

  -- the first i + 1 elements: the first i, and the one at i
  pub sum-take : (f : A → ℕ) (xs : List A) (i : ℕ) (d : A) → i < length xs → sum_of f (take (suc i) xs) ≡ sum_of f (take i xs) + f (get_or xs i d)
  sum-take f xs i d h = ap (sum_of f) (take-suc xs i d h) ∙ sum_snoc f (take i xs) (get_or xs i d)

  pub sum-most : (f : A → ℕ) (k : ℕ) → ((x : A) → f x ≤ k) → (xs : List A) → sum_of f xs ≤ k * length xs
  unfolding sum_of
  sum-most f k h [] = omega arith
  sum-most f k h (x ∷ xs) = omega (arith, sum-most f k h xs, h x)

  pub sum-least : (f : A → ℕ) (k : ℕ) → ((x : A) → k ≤ f x) → (xs : List A) → k * length xs ≤ sum_of f xs
  unfolding sum_of
  sum-least f k h [] = omega arith
  sum-least f k h (x ∷ xs) = omega (arith, sum-least f k h xs, h x)

  -- a bound on the elements that fail a test, where all fail it
  pub sum-least-none : (f : A → ℕ) (k : ℕ) (test : A → Bool) → ((x : A) → test x ≡ false → k ≤ f x) → (xs : List A) → any_of test xs ≡ false → k * length xs ≤ sum_of f xs
  unfolding sum_of any_of
  sum-least-none f k test h [] none = omega arith
  sum-least-none f k test h (x ∷ xs) none =
      let each = or_eq_false (test x) (any_of test xs) none in
      omega (arith, h x each.0, sum-least-none f k test h xs each.1)

  -- each element's number is at most another's and k more
  pub sum_above : (f g : A → ℕ) (k : ℕ) → ((x : A) → f x ≤ g x + k) → (xs : List A) → sum_of f xs ≤ sum_of g xs + k * length xs
  unfolding sum_of
  sum_above f g k h [] = omega arith
  sum_above f g k h (x ∷ xs) = omega (arith, sum_above f g k h xs, h x)

  -- the same at each place of the list
  pub sum-at-most : (f g : A → ℕ) (xs : List A) (d : A) → ((i : ℕ) → i < length xs → f (get_or xs i d) ≤ g (get_or xs i d)) → sum_of f xs ≤ sum_of g xs
  unfolding sum_of
  sum-at-most f g [] d h = omega arith
  sum-at-most f g (x ∷ xs) d h =
      omega (arith, h 0 (omega arith), sum-at-most f g xs d (λ i k. h (suc i) (suc-le-suc k)))

  pub sum-at-same : (f g : A → ℕ) (xs : List A) (d : A) → ((i : ℕ) → i < length xs → f (get_or xs i d) ≡ g (get_or xs i d)) → sum_of f xs ≡ sum_of g xs
  unfolding sum_of
  sum-at-same f g [] d h = refl
  sum-at-same f g (x ∷ xs) d h =
      omega (arith, h 0 (omega arith), sum-at-same f g xs d (λ i k. h (suc i) (suc-le-suc k)))

  -- two numbers for each element
  pub sum-plus : (f g : A → ℕ) (xs : List A) → sum_of (λ x. f x + g x) xs ≡ sum_of f xs + sum_of g xs
  unfolding sum_of
  sum-plus f g [] = omega arith
  sum-plus f g (x ∷ xs) = omega (arith, sum-plus f g xs)

  -- one element changed
  pub sum-set : (f : A → ℕ) (xs : List A) (i : ℕ) (a d : A) → i < length xs → sum_of f (set xs i a) + f (get_or xs i d) ≡ sum_of f xs + f a
  unfolding sum_of
  sum-set f [] i a d h = absurd (not-suc-le-zero h)
  sum-set f (x ∷ xs) zero a d h = omega arith
  sum-set f (x ∷ xs) (suc i) a d h = omega (arith, sum-set f xs i a d (le_of_suc-le-suc h))

  -- one element is at most the sum
  pub sum_has : (f : A → ℕ) (xs : List A) (i : ℕ) (d : A) → i < length xs → f (get_or xs i d) ≤ sum_of f xs
  unfolding sum_of
  sum_has f [] i d h = absurd (not-suc-le-zero h)
  sum_has f (x ∷ xs) zero d h = omega arith
  sum_has f (x ∷ xs) (suc i) d h = omega (arith, sum_has f xs i d (le_of_suc-le-suc h))

  -- one for each element
  pub sum_ones : (xs : List A) → sum_of (λ x. 1) xs ≡ length xs
  unfolding sum_of
  sum_ones [] = refl
  sum_ones (x ∷ xs) = omega (arith, sum_ones xs)

  -- a list that each place's number is 0 in
  pub sum-none : (f : A → ℕ) (xs : List A) (d : A) → ((i : ℕ) → i < length xs → f (get_or xs i d) ≡ 0) → sum_of f xs ≡ 0
  unfolding sum_of
  sum-none f [] d h = refl
  sum-none f (x ∷ xs) d h = omega (arith, h 0 (omega arith), sum-none f xs d (λ i k. h (suc i) (suc-le-suc k)))

  -- each number cut at m: no less than the sum cut at m
  pub sum-cut-least : (f : A → ℕ) (m : ℕ) (xs : List A) → min (sum_of f xs) m ≤ sum_of (λ x. min (f x) m) xs
  unfolding sum_of
  sum-cut-least f m [] = omega arith
  sum-cut-least f m (x ∷ xs) = omega (arith, sum-cut-least f m xs)

  -- some element passes exactly if the sum is more than 0, for a number that is more than 0 where the test passes
  pub any_sum : (test : A → Bool) (f : A → ℕ) → ((x : A) → test x ≡ ltb 0 (f x)) → (xs : List A) → any_of test xs ≡ ltb 0 (sum_of f xs)
  unfolding sum_of any_of
  any_sum test f same [] = refl
  any_sum test f same (x ∷ xs) = rw (same x, any_sum test f same xs) (some_plus (f x) (sum_of f xs))

module _ {A B : Type 0} where
  pub sum-map : (f : B → ℕ) (g : A → B) (xs : List A) → sum_of f (map g xs) ≡ sum_of (λ x. f (g x)) xs
  unfolding sum_of
  sum-map f g [] = refl
  sum-map f g (x ∷ xs) = ap (λ (n : ℕ). f (g x) + n) (sum-map f g xs)

  pub sum-flat : (f : B → ℕ) (g : A → List B) (xs : List A) → sum_of f (flat g xs) ≡ sum_of (λ x. sum_of f (g x)) xs
  unfolding sum_of flat
  sum-flat f g [] = refl
  sum-flat f g (x ∷ xs) = sum-append f (g x) (flat g xs) ∙ ap (λ (n : ℕ). sum_of f (g x) + n) (sum-flat f g xs)
