-- Document 01, "Cards and totals": each hand keeps its cards together with their number; 20 cards can occur.
use Rattle.std.specs.Prelude.{cond, List, ℕ, ◌+◌, ltb, take, set, replicate}
use Rattle.cards.specs.declared.hand.Hand.{Hand}

-- The cards of a hand: the first `count` of its array, all twenty where a damaged count says more.
abbrev pub cards_of : Hand → List ℕ
cards_of h = take h.count h.cards

-- A hand with no card.
abbrev pub empty_hand : Hand
empty_hand = record { cards = replicate 20 0; count = 0 }

-- A hand with one card more, behind the others; a hand of twenty stays as it is.
unfoldable pub with_card : Hand → ℕ → Hand
with_card h card = cond (ltb h.count 20) (record { cards = set h.cards h.count card; count = h.count + 1 }) h
