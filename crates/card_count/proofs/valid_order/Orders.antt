-- An order of 52 × decks cards is valid exactly if each face stands there as often as there are decks: no card is left for another number.
use mathlib.Core.Path.{◌≡◌, sym, ◌∙◌}
use mathlib.Core.Bool.{true, false, cond}
use mathlib.Core.List.{List, [], ◌∷◌}
use Prim.Native.Nat.{ℕ, ◌*◌, ◌^◌, ◌≤◌, ◌<◌}
use native.Mathlib.Decide.{dec_le}
use native.Mathlib.Omega.{arith}
use borrow.Author.Tests.{eqb-true, ltb-true, eq-eqb, ne_eqb, lt-ltb, le-ltb}
use lib.Dec.{ltb, eqb}
use lib.ListN.{length, get_or, take, length-take}
use Rattle.lists.specs.Sum.{count_of, is_it}
use Rattle.lists.specs.Tests.{all_of}
use Rattle.lists.specs.Below.{all_below}
use Rattle.lists.proofs.Sums.{sum-none}
use Rattle.lists.proofs.Tests.{and_given, and_at, all-at}
use Rattle.lists.proofs.Below.{all_below_lem, all_below-same}
use Rattle.lists.proofs.Counts.{sum_below-each, counts_all}
use Rattle.card_count.specs.Aids.Counters.{no_counts, counted_all}
use Rattle.card_count.proofs.counters.Counts.{count_most, counted_zeros}
use Rattle.table.specs.Shoe.{valid_order}

pub faces_valid : (decks : ℕ) (order : List ℕ) → length order ≡ 52 * decks → valid_order decks order ≡ all_below (λ face. eqb (count_of face order) decks) 52
unfolding valid_order
faces_valid decks order h = rw (eq-eqb (length order) (52 * decks) h) (and_given (all_of (λ card. ltb card 52) order) (all_below (λ face. eqb (count_of face order) decks) 52) below)
  where
    below : all_below (λ face. eqb (count_of face order) decks) 52 ≡ true → all_of (λ card. ltb card 52) order ≡ true
    below each =
        counts_all order 52
        (sum_below-each (λ face. count_of face order) 52 decks
        (λ face l. eqb-true (count_of face order) decks (all_below_lem (λ k. eqb (count_of k order) decks) 52 face each l)) ∙ sym h)

-- so the counters of as many cards of each face decide it, where they do not wrap
pub faces-decide : (decks : ℕ) (order cards of : List ℕ) → length order ≡ 52 * decks → 52 * decks < 2 ^ 16 → of ≡ counted_all no_counts cards → ((b : ℕ) → count_of b cards ≡ count_of b order)
    → all_below (λ face. eqb (get_or of face 0) decks) 52 ≡ valid_order decks order
faces-decide decks order cards of h few e same =
    all_below-same (λ face. eqb (get_or of face 0) decks) (λ face. eqb (count_of face order) decks) 52
    (λ face l. rw (e, counted_zeros cards face (omega arith) (omega (arith, h, few, same face, count_most face order)), same face))
    ∙ sym (faces_valid decks order h)

-- a valid order has its faces, and nothing else
pub valid_count : (decks : ℕ) (order : List ℕ) → valid_order decks order ≡ true → (b : ℕ) → count_of b order ≡ cond (ltb b 52) decks 0
unfolding valid_order
valid_count decks order valid b = go (dec_le 52 b)
  where
    parts : (k : ℕ) → get_or (eqb (length order) (52 * decks) ∷ all_of (λ card. ltb card 52) order ∷ all_below (λ face. eqb (count_of face order) decks) 52 ∷ []) k true ≡ true
    parts = and_at (eqb (length order) (52 * decks) ∷ all_of (λ card. ltb card 52) order ∷ all_below (λ face. eqb (count_of face order) decks) 52 ∷ []) valid

    other : 52 ≤ b → (i : ℕ) → i < length order → is_it b (get_or order i 0) ≡ 0
    other past i h = rw (ne_eqb (get_or order i 0) b (λ e. omega (arith, ltb-true (get_or order i 0) 52 (all-at (λ card. ltb card 52) order i 0 (parts 1) h))))

    go : Dec (52 ≤ b) → count_of b order ≡ cond (ltb b 52) decks 0
    go (yes past) = rw (le-ltb b 52 past) (sum-none (is_it b) order 0 (other past))
    go (no inside) = rw (lt-ltb b 52 (omega arith)) (eqb-true (count_of b order) decks (all_below_lem (λ face. eqb (count_of face order) decks) 52 b (parts 2) (omega arith)))

-- a shoe of fewer cards has no valid order
pub too_short : (decks n : ℕ) (order : List ℕ) → length order < 52 * decks → valid_order decks (take n order) ≡ false
unfolding valid_order
too_short decks n order h = rw (ne_eqb (length (take n order)) (52 * decks) (λ e. omega (arith, length-take n order)))
