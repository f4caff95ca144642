-- The hand and the seat that `card_effect` makes, over the options, the place and the seat.
use Rattle.std.specs.Prelude.{ℕ, set}
use Rattle.cards.specs.Hand.{with_card}
use Rattle.options.specs.declared.Options.{Options}
use Rattle.rules.specs.declared.seat_hand.SeatHand.{SeatHand}
use Rattle.rules.specs.SeatHand.{played_of}
use Rattle.table.specs.declared.Seat.{Seat}
use Rattle.table.specs.Seat.{make_seat, map_guests}
use Rattle.decisions_spec.specs.Card.{card_money}

-- A hand with one card more and this code.
abbrev pub grown_by : SeatHand → ℕ → ℕ → SeatHand
grown_by h card code = record { hand = with_card h.hand card; origin = h.origin; ended = code }

-- The seat with its guests' money changed by the card and this hand in the place p.
abbrev pub grown_seat : Options → ℕ → Seat → SeatHand → ℕ → Seat
grown_seat o p s h times =
    let x = map_guests (card_money o times (played_of h)) s in
    make_seat x.money x.others (record { places = set s.hands.places p h; many = s.hands.many }) s.first
