-- Document 01, deal: from the lowest seat one card to each staked seat (article 5). A pass goes over the seats and takes a card of the order for
-- each.
use Rattle.std.specs.Prelude.{cond, List, [], ◌∷◌, ℕ, suc, get_or, set}
use Rattle.cards.specs.Hand.{empty_hand, with_card}
use Rattle.rules.specs.declared.seat_hand.SeatHand.{SeatHand}
use Rattle.rules.specs.SeatHand.{dealt, not_ended}
use Rattle.table.specs.declared.Seat.{Seat}
use Rattle.table.specs.Seat.{missing_place, make_seat, is_staked}

-- The seat with this hand at its first place, and no other; its k-th card is kept for the side stakes (request 2.6).
abbrev pub with_only : Seat → SeatHand → ℕ → ℕ → Seat
with_only s h k card = make_seat s.money s.others (record { places = set s.hands.places 0 h; many = 1 }) (set s.first k card)

-- The first card opens the seat's hand; the second goes to it.
abbrev pub first_card : Seat → ℕ → Seat
first_card s card = with_only s (record { hand = with_card empty_hand card; origin = dealt; ended = not_ended }) 0 card

abbrev pub second_card : Seat → ℕ → Seat
second_card s card = with_only s (record { hand = with_card (get_or s.hands.places 0 missing_place).hand card; origin = dealt; ended = not_ended }) 1 card

-- A pass over the seats, from place n of the order: each staked seat takes the next card.
unfoldable pub pass : (Seat → ℕ → Seat) → List ℕ → ℕ → List Seat → List Seat
pass give order n [] = []
pass give order n (s ∷ ss) =
    cond (is_staked s) (give s (get_or order n 0) ∷ pass give order (suc n) ss) (s ∷ pass give order n ss)
