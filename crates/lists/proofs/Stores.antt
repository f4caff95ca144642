-- Laws of stores into a list: two runs, one behind the other, are one; a list copied over another, element by element; and what is left of equal elements.
use mathlib.Core.Path.{◌≡◌, sym, ◌∙◌, ap}
use mathlib.Core.List.{List, [], ◌∷◌, ◌++◌}
use Prim.Native.Nat.{ℕ, zero, suc, ◌+◌, ◌-◌, ◌≤◌, ◌<◌}
use native.Mathlib.Nat.{add-zero, add-suc, add_assoc, suc-add, le_of_lt}
use native.Mathlib.Numerals.{add-one}
use native.Mathlib.Omega.{arith}
use lib.ListN.{length, get_or, take, drop, set, replicate, length-append}
use lib.Seq.{sets, set_at, sets-eq, take-suc, take_at, drop-cons, append_snoc, length-take-le}

module _ {A : Type 0} where
  pub sets_append : (l : List A) (i : ℕ) (a b : List A) → sets (sets l i a) (i + length a) b ≡ sets l i (a ++ b)
  sets_append l i [] b = rw add-zero
  sets_append l i (x ∷ a) b = ap (λ (k : ℕ). sets (sets (set l i x) (suc i) a) k b) (add-suc i (length a) ∙ sym (suc-add i (length a))) ∙ sets_append (set l i x) (suc i) a b

  -- so in whatever holds the list together with the number of its elements in use
  pub stores_more : {B : Type 0} (hold : List A → ℕ → B) (l : List A) (i : ℕ) (a b all : List A) → a ++ b ≡ all
      → hold (sets (sets l i a) (i + length a) b) (i + length a + length b) ≡ hold (sets l i all) (i + length all)
  stores_more hold l i a b all e = rw (sets_append l i a b, ← e, length-append a b, add_assoc)

  -- behind the first n, where there is room
  pub sets_taken : (l : List A) (n : ℕ) (xs : List A) → n + length xs ≤ length l → take (n + length xs) (sets l n xs) ≡ take n l ++ xs
  sets_taken l n xs room =
      ap (take (n + length xs)) (sets-eq xs l n room)
      ∙ take_at (take n l ++ xs) (drop (n + length xs) l) (n + length xs) (omega (arith, length-append (take n l) xs, length-take-le n l (omega arith)))

  -- from the front
  pub sets_front : (l xs : List A) → length xs ≤ length l → take (length xs) (sets l 0 xs) ≡ xs
  sets_front l xs room = let n : length xs ≡ 0 + length xs = omega arith in ap (λ (k : ℕ). take k (sets l 0 xs)) n ∙ sets_taken l 0 xs (omega arith)

  -- the first i elements are copied, and now the one at i
  pub copy_next : (xs ys : List A) (i : ℕ) (d : A) → i < length xs → i < length ys → set (take i xs ++ drop i ys) i (get_or xs i d) ≡ take (i + 1) xs ++ drop (i + 1) ys
  copy_next xs ys i d h k =
      rw (add-one, drop-cons ys i d, take-suc xs i d)
      (set_at (take i xs) (get_or ys i d) (drop (suc i) ys) (get_or xs i d) i (length-take-le i xs (le_of_lt h))
      ∙ sym (append_snoc (take i xs) (get_or xs i d) (drop (suc i) ys)))

  pub drop-replicate : (n m : ℕ) (a : A) → drop n (replicate m a) ≡ replicate (m - n) a
  drop-replicate zero m a = let same : m ≡ m - 0 = omega arith in ap (λ (k : ℕ). replicate k a) same
  drop-replicate (suc n) zero a = let same : 0 ≡ 0 - suc n = omega arith in ap (λ (k : ℕ). replicate k a) same
  drop-replicate (suc n) (suc m) a = let same : m - n ≡ suc m - suc n = omega arith in drop-replicate n m a ∙ ap (λ (k : ℕ). replicate k a) same
