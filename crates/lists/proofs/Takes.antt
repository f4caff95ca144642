-- Laws of the first elements of a list, as an array and a count of elements give them.
use mathlib.Core.Path.{◌≡◌, refl, ap, ◌∙◌, sym}
use mathlib.Core.List.{List, [], ◌∷◌}
use Prim.Native.Nat.{ℕ, ◌≤◌, ◌<◌, min}
use native.Mathlib.Decide.{dec_le}
use native.Mathlib.Omega.{arith}
use lib.Dec.{eqb}
use lib.ListN.{length, take, get_or, length-take}
use lib.Seq.{take_all, take-suc, length-take-le}
use borrow.Author.Tests.{ne_eqb}

module _ {A : Type 0} where
  -- a count past the list takes the whole list
  pub take_clamped : (xs : List A) (n m : ℕ) → m ≡ min n (length xs) → take m xs ≡ take n xs
  take_clamped xs n m e = go (dec_le n (length xs))
    where
      go : Dec (n ≤ length xs) → take m xs ≡ take n xs
      go (yes h) = let same : m ≡ n = omega arith in ap (λ (k : ℕ). take k xs) same
      go (no h) = take_all m xs (omega arith) ∙ sym (take_all n xs (omega arith))

  -- below the list's length, a test of how many are taken is a test of the count
  pub count-taken : (xs : List A) (n k : ℕ) → k < length xs → eqb (length (take n xs)) k ≡ eqb n k
  count-taken xs n k h = go (dec_le n (length xs))
    where
      go : Dec (n ≤ length xs) → eqb (length (take n xs)) k ≡ eqb n k
      go (yes le) = rw length-take-le
      go (no gt) = ne_eqb _ k (omega (arith, length-take n xs)) ∙ sym (ne_eqb n k (omega arith))

  -- one, two and three elements, each by its place
  pub take-one : (xs : List A) (n : ℕ) (d : A) → n ≡ 1 → 0 < length xs → take n xs ≡ get_or xs 0 d ∷ []
  take-one xs n d one h = rw (one, take-suc xs 0 d)

  pub take-two : (xs : List A) (n : ℕ) (d : A) → n ≡ 2 → 1 < length xs → take n xs ≡ get_or xs 0 d ∷ get_or xs 1 d ∷ []
  take-two xs n d two h = rw (two, take-suc xs 1 d, take-one xs 1 d refl (omega arith))
