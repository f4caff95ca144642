-- The cards that are left and the discards, counted once: beside the other drawn ones they decide whether the order is valid, and of a valid order,
-- beside the cards in hands and with the bank, whether as many cards that are out are the drawn ones.
use mathlib.Core.Path.{◌≡◌, refl, sym, ap, ◌∙◌}
use mathlib.Core.Bool.{Bool, true, false}
use mathlib.Core.List.{List, ◌++◌}
use Prim.Native.Nat.{ℕ, ◌+◌, ◌-◌, ◌*◌, ◌≤◌, ◌<◌}
use native.Mathlib.Omega.{arith}
use borrow.Author.Tests.{eqb-true, eq-eqb, lt-ltb}
use lib.Dec.{eqb}
use lib.ListN.{length, get_or, take, drop, length-append, length-take, length-drop, take-append-drop}
use lib.Seq.{take_all, take-take}
use Rattle.lists.specs.Sum.{count_of, is_it}
use Rattle.lists.specs.Below.{all_below}
use Rattle.lists.proofs.Sums.{sum-append}
use Rattle.lists.proofs.Below.{all_below_lem, below_all}
use Rattle.lists.proofs.Parts.{part_of_take, sum_more}
use Rattle.card_count.specs.Aids.Counters.{no_counts, counted_all}
use Rattle.card_count.proofs.counters.Counts.{counted-append}
use Rattle.table.specs.Shoe.{valid_order}
use Rattle.card_count.proofs.valid_order.Orders.{faces_valid, faces-decide, valid_count}

-- two tests are one where each passes with the other
both_ways : (a b : Bool) → (a ≡ true → b ≡ true) → (b ≡ true → a ≡ true) → a ≡ b
both_ways true b to from = sym (to refl)
both_ways false true to from = from refl
both_ways false false to from = refl

-- what is left of the first k, as a part of the whole
pub left-part : (n k : ℕ) (xs : List ℕ) → n ≤ k → take (k - n) (drop n xs) ≡ drop n (take k xs)
left-part n k xs h = sym (part_of_take (k - n) n k xs (omega arith)) ∙ take_all (k - n) (drop n (take k xs)) (omega (arith, length-drop n (take k xs), length-take k xs))

-- a list taken apart and put together the other way round
count_swapped : (b n : ℕ) (xs : List ℕ) → count_of b (drop n xs ++ take n xs) ≡ count_of b xs
count_swapped b n xs =
    let apart : count_of b (take n xs ++ drop n xs) ≡ count_of b xs = ap (count_of b) (take-append-drop n xs) in
    omega (arith, apart, sum-append (is_it b) (take n xs) (drop n xs), sum-append (is_it b) (drop n xs) (take n xs))

-- of the first n cards, d are counted with those behind, and the rest now
pub count-rest : (b d n k : ℕ) (xs : List ℕ) → d ≤ n → n ≤ k
    → count_of b (drop n (take k xs) ++ take d xs) + count_of b (take (n - d) (drop d xs)) ≡ count_of b (take k xs)
count-rest b d n k xs few within =
    let all : d + (n - d) ≡ n = omega arith in
    omega (
      arith,
      sum-append (is_it b) (drop n (take k xs)) (take d xs),
      sum_more (is_it b) xs d (n - d),
      ap (λ (m : ℕ). count_of b (take m xs)) all,
      ap (count_of b) (take-take n k xs within),
      sum-append (is_it b) (drop n (take k xs)) (take n (take k xs)),
      count_swapped b n (take k xs),
    )

-- the discards, which are the first cards, are counted with those that are left
pub count-first : (b : ℕ) (left first on discards : List ℕ) → discards ≡ first → count_of b (left ++ first) + count_of b on ≡ count_of b left + count_of b (on ++ discards)
count-first b left first on discards e = omega (arith, sum-append (is_it b) left first, sum-append (is_it b) on discards, ap (count_of b) e)

module _ (decks n : ℕ) (order kept left : List ℕ) (full : length order ≡ 52 * decks) (few : 52 * decks ≤ 416) (counters : left ≡ counted_all no_counts kept) where
  beside : (cards of : List ℕ) → of ≡ counted_all left cards → of ≡ counted_all no_counts (kept ++ cards)
  beside cards of e = e ∙ ap (λ (l : List ℕ). counted_all l cards) counters ∙ sym (counted-append no_counts kept cards)

  -- the other drawn cards beside those that are kept
  pub drawn-decide : (rest of : List ℕ) → ((b : ℕ) → count_of b kept + count_of b rest ≡ count_of b order) → of ≡ counted_all left rest
      → all_below (λ face. eqb (get_or of face 0) decks) 52 ≡ valid_order decks order
  drawn-decide rest of same e = faces-decide decks order (kept ++ rest) of full (omega (arith, few)) (beside rest of e) (λ b. sum-append (is_it b) kept rest ∙ same b)

  -- as many cards that are out beside those that are left
  module _ (valid : valid_order decks order ≡ true) (out : List ℕ) (many : length out ≡ n) (within : n ≤ 52 * decks) where
    apart : (b : ℕ) → count_of b (drop n order ++ out) + count_of b (take n order) ≡ count_of b order + count_of b out
    apart b = omega (arith, sum-append (is_it b) (drop n order) out, sum-append (is_it b) (drop n order) (take n order), count_swapped b n order)

    again : length (drop n order ++ out) ≡ 52 * decks
    again = omega (arith, length-append (drop n order) out, length-drop n order)

    to : valid_order decks (drop n order ++ out) ≡ true → all_below (λ b. eqb (count_of b out) (count_of b (take n order))) 256 ≡ true
    to other =
        below_all (λ b. eqb (count_of b out) (count_of b (take n order))) 256
        (λ b h. eq-eqb (count_of b out) (count_of b (take n order)) (omega (arith, apart b, valid_count decks order valid b, valid_count decks (drop n order ++ out) other b)))

    from : all_below (λ b. eqb (count_of b out) (count_of b (take n order))) 256 ≡ true → valid_order decks (drop n order ++ out) ≡ true
    from same =
        faces_valid decks (drop n order ++ out) again
        ∙ below_all (λ face. eqb (count_of face (drop n order ++ out)) decks) 52
        (λ face h. eq-eqb (count_of face (drop n order ++ out)) decks (each face h))
      where
        each : (face : ℕ) → face < 52 → count_of face (drop n order ++ out) ≡ decks
        each face h =
            let drawn : count_of face out ≡ count_of face (take n order)
            = eqb-true (count_of face out) (count_of face (take n order)) (all_below_lem (λ b. eqb (count_of b out) (count_of b (take n order))) 256 face same (omega arith)) in
            let valued : count_of face order ≡ decks = valid_count decks order valid face ∙ rw (lt-ltb face 52 h) in
            omega (arith, apart face)

    pub out_decide : (on of : List ℕ) → ((b : ℕ) → count_of b kept + count_of b on ≡ count_of b (drop n order) + count_of b out) → of ≡ counted_all left on
        → all_below (λ face. eqb (get_or of face 0) decks) 52 ≡ all_below (λ b. eqb (count_of b out) (count_of b (take n order))) 256
    out_decide on of same e =
        faces-decide decks (drop n order ++ out) (kept ++ on) of again (omega (arith, few)) (beside on of e) (λ b. sum-append (is_it b) kept on ∙ same b ∙ sym (sum-append (is_it b) (drop n order) out))
        ∙ both_ways (valid_order decks (drop n order ++ out)) (all_below (λ b. eqb (count_of b out) (count_of b (take n order))) 256) to from
