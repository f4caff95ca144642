-- Laws of lines: the place of the first element that passes is the one that std's `position` finds, and a line's end is between its start and the text's end.
use Rattle.std.proofs.Common.{◌≡◌, refl, ap, ◌∙◌, Bool, true, false, cond, [], ◌∷◌, List, ℕ, suc, ◌+◌, ◌≤◌, length, take, drop, arith, Some, None, nat_lt}
use lib.Dec.{ltb}
use native.Mathlib.Numerals.{unary_clauses}
use Prim.Native.Nat.compare
use Rattle.std.specs.List.{onto_first}
use Rattle.script.specs.Lines.{ends_line, lines_of, LinesEnd}
use Rattle.std.specs.Option.{unwrap_or}
use borrow.Author.Tests.{ltb-false, lt-ltb}
use Rattle.std.specs.List.{position, position_or_len}
use Rattle.std.proofs.lemmas.List.Recursion.{is_position_or_len}
use Rattle.lists.specs.Tests.{first_place}
use Rattle.lists.proofs.Picks.{cond_most}

-- what a search gives, read back: where it finds a place, and where it finds none
found-place : (b : Bool) (n k : ℕ) → cond b (Some n) None ≡ Some k → n ≡ k
found-place true n k e = ap (λ o. unwrap_or o 0) e
found-place false n k e = cc

found-none : (b : Bool) (n : ℕ) → cond b (Some n) None ≡ None → b ≡ false
found-none true n e = cc
found-none false n e = refl

module _ {A : Type 0} where
  place-position_or_len : (f : A → Bool) (xs : List A) → first_place f xs ≡ position_or_len f xs
  unfolding first_place
  place-position_or_len f xs = is_position_or_len (first_place f) f (omega arith) step xs
    where
      step : (x : A) (rest : List A) → first_place f (x ∷ rest) ≡ cond (f x) 0 (1 + first_place f rest)
      step x rest = go (f x)
        where
          go : (b : Bool) → cond b 0 (suc (first_place f rest)) ≡ cond b 0 (1 + first_place f rest)
          go true = omega arith
          go false = omega arith

  place-most : (f : A → Bool) (xs : List A) → first_place f xs ≤ length xs
  unfolding first_place
  place-most f [] = omega arith
  place-most f (x ∷ xs) = cond_most (f x) (omega arith) (omega (arith, place-most f xs))

  pub place-some : (f : A → Bool) (xs : List A) (k : ℕ) → position f xs ≡ Some k → first_place f xs ≡ k
  place-some f xs k h = place-position_or_len f xs ∙ found-place (nat_lt (position_or_len f xs) (length xs)) (position_or_len f xs) k h

  pub place-none : (f : A → Bool) (xs : List A) → position f xs ≡ None → first_place f xs ≡ length xs
  place-none f xs h =
      let past = ltb-false (position_or_len f xs) (length xs) (found-none (nat_lt (position_or_len f xs) (length xs)) (position_or_len f xs) h) in
      omega (arith, place-most f xs, place-position_or_len f xs, past)

-- the library cuts a text where its lines end
pub lines_end : (text : List ℕ) → LinesEnd text
unfolding first_place
lines_end [] = refl
lines_end (x ∷ xs) = go (ends_line x) (lines_end xs)
  where
    Ends : ℕ → List ℕ → Type 0
    Ends k text = lines_of text ≡ take k text ∷ cond (ltb k (length text)) (lines_of (drop (k + 1) text)) []

    from_zero : (k : ℕ) → 0 + k ≡ k
    from_zero k = omega arith

    longer : (k : ℕ) → Ends k xs → onto_first x (lines_of xs) ≡ take (suc k) (x ∷ xs) ∷ cond (ltb (suc k) (suc (length xs))) (lines_of (drop (suc k + 1) (x ∷ xs))) []
    longer k h = simp (unary_clauses, compare.suc-suc) (ap (onto_first x) (simp unary_clauses at h))

    go : (b : Bool) → LinesEnd xs
        → cond b ([] ∷ lines_of xs) (onto_first x (lines_of xs))
        ≡ take (0 + cond b 0 (suc (first_place ends_line xs))) (x ∷ xs)
        ∷ cond (ltb (0 + cond b 0 (suc (first_place ends_line xs))) (suc (length xs))) (lines_of (drop (0 + cond b 0 (suc (first_place ends_line xs)) + 1) (x ∷ xs))) []
    go true later = rw (lt-ltb 0 (suc (length xs)) (omega arith)) refl
    go false later = rw (from_zero (suc (first_place ends_line xs))) (longer (first_place ends_line xs) (rw (from_zero (first_place ends_line xs)) at later))
