-- Hands, bank and discards are the drawn cards, and with those that are left the whole order, which has each face as often as there are decks.
use mathlib.Core.Path.{◌≡◌, refl, ap}
use mathlib.Core.Bool.{true, false}
use mathlib.Core.List.{List, [], ◌∷◌, ◌++◌}
use Prim.Native.Nat.{ℕ, ◌+◌, ◌*◌, ◌<◌}
use native.Mathlib.Nat.{not-suc-le-zero}
use native.Mathlib.Omega.{arith}
use borrow.Author.Tests.{ltb-true, eqb-true}
use lib.Dec.{ltb, eqb}
use lib.ListN.{length, get_or, drop, take-append-drop}
use Rattle.lists.specs.Below.{all_below}
use Rattle.lists.specs.Sum.{sum_of, is_it, count_of}
use Rattle.lists.specs.Tests.{all_of}
use Rattle.lists.proofs.Below.{all_below_lem}
use Rattle.lists.proofs.Sums.{sum-append, sum_one}
use Rattle.lists.proofs.Tests.{and_at}
use Rattle.table.specs.declared.Table.{Table}
use Rattle.table.specs.Broken.{broken}
use Rattle.table.specs.Shoe.{valid_order}
use Rattle.table.specs.Table.{hand_cards, bank_cards, table_discards, table_order, table_drawn, table_shoe, is_dealt, up}
use Rattle.table.proofs.Facts.{unbroken, sound_options}
use Rattle.faces_left.specs.Unseen.{SeenAndLeft}
use Rattle.faces_left.specs.Aids.Few.{Few}

-- the first card apart
first_apart : (w : ℕ → ℕ) (cards : List ℕ) → 0 < length cards → sum_of w cards ≡ w (get_or cards 0 0) + sum_of w (drop 1 cards)
unfolding sum_of
first_apart w [] h = absurd (not-suc-le-zero h)
first_apart w (card ∷ cards) h = refl

each_decks : (decks face : ℕ) (order : List ℕ) → valid_order decks order ≡ true → face < 52 → count_of face order ≡ decks
unfolding valid_order
each_decks decks face order valid h =
    let test = and_at (eqb (length order) (52 * decks) ∷ all_of (λ card. ltb card 52) order ∷ all_below (λ f. eqb (count_of f order) decks) 52 ∷ []) valid in
    eqb-true (count_of face order) decks (all_below_lem (λ f. eqb (count_of f order) decks) 52 face (test 2) h)

pub seen_and_left : SeenAndLeft
seen_and_left t whole dealt face h =
    let f = unbroken t whole in
    let order = table_order t in
    omega (
      arith,
      f.faces face (omega arith),
      sum-append (is_it face) (hand_cards t ++ bank_cards t) (table_discards t),
      sum-append (is_it face) (hand_cards t) (bank_cards t),
      first_apart (is_it face) (bank_cards t) (ltb-true 0 (length (bank_cards t)) dealt),
      sum-append (is_it face) (hand_cards t ++ (up t ∷ [])) (table_discards t),
      sum-append (is_it face) (hand_cards t) (up t ∷ []),
      sum_one (is_it face) (up t),
      sum-append (is_it face) (table_shoe t) (drop 1 (bank_cards t)),
      sum-append (is_it face) (table_drawn t) (table_shoe t),
      ap (count_of face) (take-append-drop t.shoe.drawn order),
      each_decks t.options.decks face order f.valid h,
    )

-- so a byte holds the number of each
pub few_left : (t : Table) → broken t ≡ false → is_dealt t ≡ true → Few (table_shoe t) (drop 1 (bank_cards t))
few_left t whole dealt =
    record {
      each = λ face h.
          omega (arith, seen_and_left t whole dealt face h, sum-append (is_it face) (table_shoe t) (drop 1 (bank_cards t)), (sound_options t (unbroken t whole)).decks_most);
    }
