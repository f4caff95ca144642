-- Laws of tests: of `or` and `and`, and over a list: over an appended list, one element more, one element changed, and the element at a place.
use mathlib.Core.Path.{◌≡◌, refl, sym, ◌∙◌, ap}
use mathlib.Core.Bool.{Bool, cond, true, false, not, ◌&&◌, ◌||◌, and_assoc, and-eq-true_iff, and-true, and-false, or_assoc, or-false, or-true, true≢false}
use mathlib.Core.List.{List, [], ◌∷◌, ◌++◌, foldl}
use Prim.Native.Nat.{ℕ, zero, suc, ◌+◌, ◌-◌, ◌≤◌, ◌<◌}
use native.Mathlib.Decide.{dec_le}
use native.Mathlib.Nat.{le_of_suc-le-suc, not-suc-le-zero}
use native.Mathlib.Omega.{arith}
use lib.Dec.{ltb, leb, eqb, leb-suc-suc}
use lib.ListN.{length, take, get_or, set, length-set}
use lib.Seq.{take-suc, get_or-set_same}
use borrow.Author.Tests.{lt-ltb, le-ltb, le-leb, lt-leb, eqb-false, ne_eqb}
use Rattle.lists.specs.Tests.{any_of, all_of, first_place}

-- a test that picks one thing twice
pub cond_same : {A : Type 0} (b : Bool) (x : A) → cond b x x ≡ x
cond_same true x = refl
cond_same false x = refl

-- an `or` that fails: both parts fail
pub or_eq_false : (a b : Bool) → a || b ≡ false → (a ≡ false) × (b ≡ false)
or_eq_false true b e = absurd (true≢false e)
or_eq_false false b e = (refl, e)

-- an `or` holds exactly if its second part holds where its first fails
pub or_other : (a b : Bool) → a || b ≡ true → a ≡ false → b ≡ true
or_other true b e none = absurd (true≢false none)
or_other false b e none = e

pub or_unless : (a b : Bool) → (a ≡ false → b ≡ true) → a || b ≡ true
or_unless true b f = refl
or_unless false b f = f refl

-- a test that counts only where there is some
pub test_some : (n : ℕ) (b : Bool) → eqb n 0 || b ≡ true → 0 < n → b ≡ true
test_some n b e some = or_other (eqb n 0) b e (ne_eqb n 0 (λ none. omega arith))

pub some_test : (n : ℕ) (b : Bool) → (0 < n → b ≡ true) → eqb n 0 || b ≡ true
some_test n b f = or_unless (eqb n 0) b (λ some. f (omega (arith, eqb-false n 0 some)))

-- a test that counts only where another holds
pub test_where : (a b : Bool) → not a || b ≡ true → a ≡ true → b ≡ true
test_where a b e holds = or_other (not a) b e (ap not holds)

pub where_test : (a b : Bool) → (a ≡ true → b ≡ true) → not a || b ≡ true
where_test true b f = f refl
where_test false b f = refl

-- an order tested the other way round, and a difference compared as the sum is
pub leb_not : (a b : ℕ) → leb a b ≡ not (ltb b a)
leb_not a b = go (dec_le a b)
  where
    go : Dec (a ≤ b) → leb a b ≡ not (ltb b a)
    go (yes le) = le-leb a b le ∙ ap not (sym (le-ltb b a le))
    go (no gt) = lt-leb a b (omega arith) ∙ ap not (sym (lt-ltb b a (omega arith)))

pub leb_past : (a b c : ℕ) → b < a → leb (a - b) c ≡ leb a (b + c)
leb_past a b c h = go (dec_le a (b + c))
  where
    go : Dec (a ≤ b + c) → leb (a - b) c ≡ leb a (b + c)
    go (yes le) = le-leb (a - b) c (omega arith) ∙ sym (le-leb a (b + c) le)
    go (no gt) = lt-leb (a - b) c (omega arith) ∙ sym (lt-leb a (b + c) (omega arith))

-- two orders that say the same test the same
pub ltb_same : (a b c d : ℕ) → (a < b → c < d) → (c < d → a < b) → ltb a b ≡ ltb c d
ltb_same a b c d there back = go (dec_le (suc a) b)
  where
    go : Dec (a < b) → ltb a b ≡ ltb c d
    go (yes h) = lt-ltb a b h ∙ sym (lt-ltb c d (there h))
    go (no h) = let none : c < d → ⊥ = λ k. h (back k) in le-ltb a b (omega arith) ∙ sym (le-ltb c d (omega arith))

-- a test that another one gives adds nothing to it
pub and_given : (a b : Bool) → (b ≡ true → a ≡ true) → a && b ≡ b
and_given a true h = ap (λ (x : Bool). x && true) (h refl)
and_given a false h = and-false a

-- a chain of `and` that holds: so does the test at each place of it
fold_and : (b : Bool) (tests : List Bool) → foldl ◌&&◌ b tests ≡ true → (b ≡ true) × ((k : ℕ) → get_or tests k true ≡ true)
fold_and b [] e = (e, λ k. refl)
fold_and b (x ∷ xs) e = go (fold_and (b && x) xs e)
  where
    at : x ≡ true → ((k : ℕ) → get_or xs k true ≡ true) → (k : ℕ) → get_or (x ∷ xs) k true ≡ true
    at here later zero = here
    at here later (suc k) = later k

    go : (b && x ≡ true) × ((k : ℕ) → get_or xs k true ≡ true) → (b ≡ true) × ((k : ℕ) → get_or (x ∷ xs) k true ≡ true)
    go (both, later) = let (first, here) = (and-eq-true_iff b x).0 both in (first, at here later)

pub and_at : (tests : List Bool) → foldl ◌&&◌ true tests ≡ true → (k : ℕ) → get_or tests k true ≡ true
and_at tests e = (fold_and true tests e).1

-- two tests asked together in one walk, the second only where `b` asks for it, are the two asked one after the other
regroup : (a b c d e : Bool) → (a || (b && c)) || (d || (b && e)) ≡ (a || d) || (b && (c || e))
regroup true b c d e = refl
regroup false false c d e = refl
regroup false true c true e = or-true c
regroup false true c false e = refl

pub any_both : {A : Type 0} (f g : A → Bool) (b : Bool) (xs : List A) → any_of (λ x. f x || (b && g x)) xs ≡ any_of f xs || (b && any_of g xs)
unfolding any_of
any_both f g b [] = sym (and-false b)
any_both f g b (x ∷ xs) = ap (λ (rest : Bool). (f x || (b && g x)) || rest) (any_both f g b xs) ∙ regroup (f x) b (g x) (any_of f xs) (any_of g xs)

module _ {A : Type 0} where
  pub any_append : (f : A → Bool) (xs ys : List A) → any_of f (xs ++ ys) ≡ any_of f xs || any_of f ys
  unfolding any_of
  any_append f [] ys = refl
  any_append f (x ∷ xs) ys = ap (λ (b : Bool). f x || b) (any_append f xs ys) ∙ sym (or_assoc (f x) (any_of f xs) (any_of f ys))

  pub any_one : (f : A → Bool) (x : A) → any_of f (x ∷ []) ≡ f x
  unfolding any_of
  any_one f x = or-false (f x)

  -- the first i + 1 elements: the first i, or the one at i
  pub any_take : (f : A → Bool) (xs : List A) (i : ℕ) (d : A) → i < length xs → any_of f (take (suc i) xs) ≡ any_of f (take i xs) || f (get_or xs i d)
  any_take f xs i d h = rw (take-suc xs i d, any_append, any_one)

  -- the first i + 1 elements: the first i, and the one at i
  pub all_take : (f : A → Bool) (xs : List A) (i : ℕ) (d : A) → i < length xs → all_of f (take (suc i) xs) ≡ all_of f (take i xs) && f (get_or xs i d)
  unfolding all_of
  all_take f [] i d h = absurd (not-suc-le-zero h)
  all_take f (x ∷ xs) zero d h = and-true (f x)
  all_take f (x ∷ xs) (suc i) d h = ap (λ (b : Bool). f x && b) (all_take f xs i d (le_of_suc-le-suc h)) ∙ sym (and_assoc (f x) (all_of f (take i xs)) (f (get_or xs i d)))

  -- what every element passes, the one at i passes
  pub all-at : (f : A → Bool) (xs : List A) (i : ℕ) (d : A) → all_of f xs ≡ true → i < length xs → f (get_or xs i d) ≡ true
  unfolding all_of
  all-at f [] i d t h = absurd (not-suc-le-zero h)
  all-at f (x ∷ xs) zero d t h = ((and-eq-true_iff (f x) (all_of f xs)).0 t).0
  all-at f (x ∷ xs) (suc i) d t h = all-at f xs i d ((and-eq-true_iff (f x) (all_of f xs)).0 t).1 (le_of_suc-le-suc h)

  -- where each element passes, all do
  pub at_all : (f : A → Bool) (xs : List A) (d : A) → ((i : ℕ) → i < length xs → f (get_or xs i d) ≡ true) → all_of f xs ≡ true
  unfolding all_of
  at_all f [] d h = refl
  at_all f (x ∷ xs) d h = simp (h 0 (omega arith), at_all f xs d (λ i lt. h (suc i) (omega arith)))

  -- one element that passes is enough
  pub any_at : (f : A → Bool) (xs : List A) (i : ℕ) (d : A) → i < length xs → f (get_or xs i d) ≡ true → any_of f xs ≡ true
  unfolding any_of
  any_at f [] i d h t = absurd (not-suc-le-zero h)
  any_at f (x ∷ xs) zero d h t = ap (λ (b : Bool). b || any_of f xs) t
  any_at f (x ∷ xs) (suc i) d h t = ap (λ (b : Bool). f x || b) (any_at f xs i d (le_of_suc-le-suc h) t) ∙ or-true (f x)

  -- where none passes, the one at i does not
  pub any_not_at : (f : A → Bool) (xs : List A) (i : ℕ) (d : A) → i < length xs → any_of f xs ≡ false → f (get_or xs i d) ≡ false
  any_not_at f xs i d h none = go (f (get_or xs i d)) refl
    where
      go : (b : Bool) → f (get_or xs i d) ≡ b → b ≡ false
      go true e = absurd (true≢false (sym (any_at f xs i d h e) ∙ none))
      go false e = refl

  -- where each fails, none passes
  pub not_any : (f : A → Bool) (xs : List A) (d : A) → ((i : ℕ) → i < length xs → f (get_or xs i d) ≡ false) → any_of f xs ≡ false
  unfolding any_of
  not_any f [] d h = refl
  not_any f (x ∷ xs) d h = simp (h 0 (omega arith), not_any f xs d (λ i lt. h (suc i) (omega arith)))

  -- one element changed for another that tests the same
  pub any_set : (f : A → Bool) (xs : List A) (i : ℕ) (a d : A) → f a ≡ f (get_or xs i d) → any_of f (set xs i a) ≡ any_of f xs
  unfolding any_of
  any_set f [] i a d e = refl
  any_set f (x ∷ xs) zero a d e = ap (λ (b : Bool). b || any_of f xs) e
  any_set f (x ∷ xs) (suc i) a d e = ap (λ (b : Bool). f x || b) (any_set f xs i a d e)

  -- and for another that passes where `b` holds
  pub any_set_or : (f : A → Bool) (xs : List A) (i : ℕ) (a d : A) (b : Bool) → i < length xs → f a ≡ b || f (get_or xs i d) → any_of f (set xs i a) ≡ b || any_of f xs
  any_set_or f xs i a d true h e = any_at f (set xs i a) i d (rw length-set h) (ap f (get_or-set_same xs i a d h) ∙ e)
  any_set_or f xs i a d false h e = any_set f xs i a d e

  -- nothing before the place passes, and the one there does
  pub first_here : (f : A → Bool) (xs : List A) (i : ℕ) (d : A) → i < length xs → any_of f (take i xs) ≡ false → f (get_or xs i d) ≡ true → first_place f xs ≡ i
  unfolding any_of first_place
  first_here f [] i d h n t = absurd (not-suc-le-zero h)
  first_here f (x ∷ xs) zero d h n t = rw t
  first_here f (x ∷ xs) (suc i) d h n t =
      let (here, later) = or_eq_false (f x) (any_of f (take i xs)) n in
      rw here (ap suc (first_here f xs i d (le_of_suc-le-suc h) later t))

  pub first-none : (f : A → Bool) (xs : List A) → any_of f xs ≡ false → first_place f xs ≡ length xs
  unfolding any_of first_place
  first-none f [] n = refl
  first-none f (x ∷ xs) n =
      let (here, later) = or_eq_false (f x) (any_of f xs) n in
      rw here (ap suc (first-none f xs later))

  -- the first place is inside the list exactly if some element passes
  pub first_inside : (f : A → Bool) (xs : List A) → ltb (first_place f xs) (length xs) ≡ any_of f xs
  unfolding any_of first_place
  first_inside f [] = refl
  first_inside f (x ∷ xs) = go (f x) (first_inside f xs)
    where
      go : (b : Bool) → ltb (first_place f xs) (length xs) ≡ any_of f xs → ltb (cond b 0 (suc (first_place f xs))) (suc (length xs)) ≡ b || any_of f xs
      go true e = lt-ltb 0 (suc (length xs)) (omega arith)
      go false e = leb-suc-suc (suc (first_place f xs)) (length xs) ∙ e

  -- and what it names passes
  pub first_passes : (f : A → Bool) (xs : List A) (d : A) → first_place f xs < length xs → f (get_or xs (first_place f xs) d) ≡ true
  unfolding first_place
  first_passes f [] d h = absurd (not-suc-le-zero h)
  first_passes f (x ∷ xs) d h = go (f x) refl h (first_passes f xs d)
    where
      go : (b : Bool) → f x ≡ b → cond b 0 (suc (first_place f xs)) < suc (length xs) → (first_place f xs < length xs → f (get_or xs (first_place f xs) d) ≡ true)
          → f (get_or (x ∷ xs) (cond b 0 (suc (first_place f xs))) d) ≡ true
      go true e k rec = e
      go false e k rec = rec (le_of_suc-le-suc k)

  -- and nothing before it does
  pub before-first : (f : A → Bool) (xs : List A) (d : A) (k : ℕ) → k < first_place f xs → f (get_or xs k d) ≡ false
  unfolding first_place
  before-first f [] d k h = absurd (not-suc-le-zero h)
  before-first f (x ∷ xs) d k h = go (f x) refl k h (before-first f xs d)
    where
      go : (b : Bool) → f x ≡ b → (k : ℕ) → k < cond b 0 (suc (first_place f xs)) → ((k : ℕ) → k < first_place f xs → f (get_or xs k d) ≡ false) → f (get_or (x ∷ xs) k d) ≡ false
      go true e k l rec = absurd (not-suc-le-zero l)
      go false e zero l rec = e
      go false e (suc k) l rec = rec k (le_of_suc-le-suc l)
