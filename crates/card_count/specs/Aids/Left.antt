-- What the counting of the cards that are left, and of the discards, asks and gives.
use Rattle.std.specs.Prelude.{◌≡◌, true, List, ◌++◌, ℕ, ◌*◌, ◌≤◌, length, take, drop}
use Rattle.card_count.specs.Aids.Counters.{no_counts, counted_all}
use Rattle.card_count.specs.Aids.Counted.{Counted}
use Rattle.table.specs.declared.Table.{Table}
use Rattle.table.specs.Shoe.{valid_order}
use Rattle.table.specs.Table.{table_order, table_discards, hand_cards}

-- The order has its place in the array, at most all of it, n cards, is drawn, and at most all drawn cards, d of them, are discards.
pub record OrderFits (decks : ℕ) (cards : List ℕ) (n d : ℕ) : Type 0 where
  pub array : length cards ≡ 416
  pub order : 52 * decks ≤ 416
  pub drawn : n ≤ 52 * decks
  pub discarded : d ≤ n

-- The cards that are left of the whole order, and the first, as many as there are discards.
abbrev pub left_and_first : ℕ → List ℕ → ℕ → ℕ → List ℕ
left_and_first decks cards drawn discarded = drop drawn (take (52 * decks) cards) ++ take discarded cards

-- The counters hold these.
pub record Left (of : List ℕ) (decks : ℕ) (cards : List ℕ) (drawn discarded : ℕ) : Type 0 where
  pub within : OrderFits decks cards drawn discarded
  pub whole : length (take (52 * decks) cards) ≡ 52 * decks
  pub counters : of ≡ counted_all no_counts (left_and_first decks cards drawn discarded)

-- They do, the table's order is valid, and the discards are its first cards.
pub record OfValid (of : List ℕ) (t : Table) : Type 0 where
  pub left : Left of t.options.decks t.shoe.order t.shoe.drawn t.shoe.discarded
  pub valid : valid_order t.options.decks (table_order t) ≡ true
  pub discards : table_discards t ≡ take t.shoe.discarded t.shoe.order

-- Beside these the counters hold the cards in hands, so many.
pub record WithHands (of : List ℕ) (t : Table) (hands : ℕ) : Type 0 where
  pub before : List ℕ
  pub valid : OfValid before t
  pub counted : Counted before of (hand_cards t) hands 720
