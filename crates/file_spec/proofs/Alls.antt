-- What holds of every element of a list holds of every element of its parts, and of lists put together of such.
use mathlib.Core.Path.{◌≡◌, refl, ap₂}
use mathlib.Core.Bool.{Bool, true, ◌&&◌, and-eq-true_iff}
use mathlib.Core.List.{List, [], ◌∷◌, ◌++◌}
use Prim.Native.Nat.{ℕ, zero, suc}
use lib.ListN.{take, drop, set, replicate}
use Rattle.lists.specs.Tests.{all_of}

module _ {A : Type 0} (f : A → Bool) where
  -- the first element, and the others
  pub all_cons : (x : A) (xs : List A) → all_of f (x ∷ xs) ≡ true → (f x ≡ true) × (all_of f xs ≡ true)
  unfolding all_of
  all_cons x xs h = (and-eq-true_iff (f x) (all_of f xs)).0 h

  pub cons_all : (x : A) (xs : List A) → f x ≡ true → all_of f xs ≡ true → all_of f (x ∷ xs) ≡ true
  unfolding all_of
  cons_all x xs one more = ap₂ ◌&&◌ one more

  pub all_append : (a b : List A) → all_of f a ≡ true → all_of f b ≡ true → all_of f (a ++ b) ≡ true
  all_append [] b ha hb = hb
  all_append (x ∷ a) b ha hb = let (one, more) = all_cons x a ha in cons_all x (a ++ b) one (all_append a b more hb)

  pub all-part : (n : ℕ) (a : List A) → all_of f a ≡ true → all_of f (take n a) ≡ true
  unfolding all_of
  all-part zero a h = refl
  all-part (suc n) [] h = refl
  all-part (suc n) (x ∷ a) h = let (one, more) = all_cons x a h in cons_all x (take n a) one (all-part n a more)

  pub all_rest : (n : ℕ) (a : List A) → all_of f a ≡ true → all_of f (drop n a) ≡ true
  all_rest zero a h = h
  all_rest (suc n) [] h = h
  all_rest (suc n) (x ∷ a) h = all_rest n a (all_cons x a h).1

  pub all_replicate : (n : ℕ) (x : A) → f x ≡ true → all_of f (replicate n x) ≡ true
  unfolding all_of
  all_replicate zero x h = refl
  all_replicate (suc n) x h = cons_all x (replicate n x) h (all_replicate n x h)

  -- one element altered
  pub all_changed : (a : List A) (i : ℕ) (b : A) → all_of f a ≡ true → f b ≡ true → all_of f (set a i b) ≡ true
  all_changed [] i b h fits = h
  all_changed (x ∷ a) zero b h fits = cons_all b a fits (all_cons x a h).1
  all_changed (x ∷ a) (suc i) b h fits = let (one, more) = all_cons x a h in cons_all x (set a i b) one (all_changed a i b more fits)

-- what passes one test passes a weaker one
pub all_weaker : {A : Type 0} (f g : A → Bool) → ((x : A) → f x ≡ true → g x ≡ true) → (a : List A) → all_of f a ≡ true → all_of g a ≡ true
unfolding all_of
all_weaker f g weaker [] h = refl
all_weaker f g weaker (x ∷ a) h = let (one, more) = all_cons f x a h in cons_all g x a (weaker x one) (all_weaker f g weaker a more)
