-- Document 01, "The history": a hand keeps its cards, whether it comes from a split (of aces or not) and how it ended.
-- Its wager W follows from the stake and how it ended, and is never kept.
use Rattle.std.specs.Prelude.{Bool, ◌&&◌, List, map, ℕ, eqb, length, take}
use Rattle.cards.specs.Hand.{cards_of}
use Rattle.cards.specs.Natural.{is_natural}
use Rattle.rules.specs.declared.seat_hand.SeatHand.{SeatHand}
use Rattle.rules.specs.declared.seat_hand.SeatHands.{SeatHands}

-- Where a hand comes from.
abbrev pub dealt : ℕ
dealt = 0

abbrev pub split : ℕ
split = 1

abbrev pub split_aces : ℕ
split_aces = 2

-- How a hand ended. Only a decision ends a hand so: a bust or a 21 is seen from the cards.
abbrev pub not_ended : ℕ
not_ended = 0

abbrev pub by_stand : ℕ
by_stand = 1

abbrev pub by_double : ℕ
by_double = 2

abbrev pub by_surrender : ℕ
by_surrender = 3

abbrev pub by_even : ℕ
by_even = 4

abbrev pub by_five : ℕ
by_five = 5

-- A hand as the rules see it. Calls and history read the rules over this record.
pub record Played : Type 0 where
  pub cards : List ℕ
  pub origin : ℕ
  pub ended : ℕ

-- A seat's hand of the code as the rules see it.
abbrev pub played_of : SeatHand → Played
played_of h = record { cards = cards_of h.hand; origin = h.origin; ended = h.ended }

-- A seat's hands by place: the first `many` of its array, all four where a damaged count says more.
abbrev pub hands_of : SeatHands → List Played
hands_of s = map played_of (take s.many s.places)

-- A hand of exactly two cards.
unfoldable pub has_two_cards : Played → Bool
has_two_cards h = eqb (length h.cards) 2

-- Natural (article 10 n.º 1 and 6: a split hand is none): a seat's unsplit first two cards, an ace and a ten-value.
unfoldable pub natural : Played → Bool
natural h = eqb h.origin dealt && is_natural h.cards
