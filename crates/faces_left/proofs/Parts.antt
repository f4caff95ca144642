-- A part of a list from a place on, and the counts of one face more.
use mathlib.Core.Path.{◌≡◌, sym, ◌∙◌, ap}
use mathlib.Core.List.{List, ◌++◌}
use Prim.Native.Nat.{ℕ, ◌+◌, ◌-◌, ◌^◌, ◌≤◌, ◌<◌}
use native.Mathlib.Numerals.{add-one}
use native.Mathlib.Omega.{arith}
use lib.ListN.{length, get_or, take, drop, set, length-take, length-drop}
use lib.Seq.{take_all, take-suc-set}
use Rattle.lists.specs.Sum.{count_of}
use Rattle.lists.proofs.Parts.{part_of_take}
use Rattle.card_count.specs.Aids.Counters.{no_counts, counted_all}
use Rattle.card_count.proofs.counters.Counts.{counted-append, counted_zeros}
use Rattle.faces_left.specs.FacesLeft.{counts_below}

pub part : {A : Type 0} (k n : ℕ) (xs : List A) → k ≤ n → take (n - k) (drop k xs) ≡ drop k (take n xs)
part k n xs h =
    sym (part_of_take (n - k) k n xs (omega arith)) ∙ take_all (n - k) (drop k (take n xs)) (omega (arith, length-drop k (take n xs), length-take n xs))

-- a face's count stored behind those of the faces below
pub face_stored : (cards counts : List ℕ) (face many : ℕ) → face < length counts → take face counts ≡ counts_below cards face → many ≡ count_of face cards
    → take (face + 1) (set counts face many) ≡ counts_below cards (face + 1)
unfolding counts_below
face_stored cards counts face many h so e = rw (add-one, take-suc-set counts face many h, so, e)

-- the counters of two lists, one after the other, where they do not wrap
pub both-counted : (first second of : List ℕ) (face : ℕ) → of ≡ counted_all (counted_all no_counts first) second → face < 256 → count_of face (first ++ second) < 2 ^ 16 → get_or of face 0 ≡ count_of face (first ++ second)
both-counted first second of face so h few = ap (λ (l : List ℕ). get_or l face 0) (so ∙ sym (counted-append no_counts first second)) ∙ counted_zeros (first ++ second) face h few
