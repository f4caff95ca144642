-- Document 01, "The rehearsal hands": the order begins with these cards, then come the other faces rising.
use Rattle.std.specs.Prelude.{cond, List, [], ◌∷◌, ℕ, zero, suc, ◌+◌, ◌-◌, ltb, set, replicate}
use Rattle.lists.specs.Sum.{count_of}
use Rattle.script.specs.declared.orders.Order.{Order}

abbrev pub empty_order : Order
empty_order = record { cards = replicate 416 0; count = 0 }

-- One card more behind the others; 416 stay as they are.
unfoldable pub placed : Order → ℕ → Order
placed o card = cond (ltb o.count 416) (record { cards = set o.cards o.count card; count = o.count + 1 }) o

-- Several cards, one after the other.
unfoldable pub placed_all : Order → List ℕ → Order
placed_all o [] = o
placed_all o (card ∷ cards) = placed_all (placed o card) cards

-- A face as often as there are decks, less how often it was used.
abbrev pub placed_face : Order → ℕ → ℕ → ℕ → Order
placed_face o face decks used = placed_all o (replicate (decks - used) face)

-- The first n faces so, rising.
unfoldable pub placed_faces : Order → List ℕ → ℕ → ℕ → Order
placed_faces o first decks zero = o
placed_faces o first decks (suc n) = placed_face (placed_faces o first decks n) n decks (count_of n first)

-- The order that begins with these cards.
unfoldable pub begun : List ℕ → ℕ → Order
begun first decks = placed_faces (placed_all empty_order first) first decks 52
