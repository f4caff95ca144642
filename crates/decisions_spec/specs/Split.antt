-- Document 01, "The seventeen calls", the guest: split (S more for the new hand, which follows its parent; two cards drawn, the first to the parent),
-- article 16. When it is refused, and the table after it.
use Rattle.std.specs.Prelude.{not, cond, List, [], ◌∷◌, ◌++◌, ℕ, suc, ◌+◌, ◌-◌, leb, ltb, eqb, length, get_or, take, drop, set}
use Rattle.call.specs.Refusal.{Condition}
use Rattle.cards.specs.Card.{is_ace}
use Rattle.cards.specs.Hand.{cards_of, empty_hand, with_card}
use Rattle.cards.specs.Pair.{is_pair}
use Rattle.rules.specs.declared.seat_hand.SeatHand.{SeatHand}
use Rattle.rules.specs.SeatHand.{split, split_aces, not_ended}
use Rattle.table.specs.declared.Money.{Money}
use Rattle.table.specs.declared.Seat.{Seat}
use Rattle.table.specs.declared.Table.{Table}
use Rattle.table.specs.Guest.{with_purse}
use Rattle.table.specs.Seat.{make_seat, map_guests, hands}
use Rattle.table.specs.Shoe.{with_drawn}
use Rattle.table.specs.Table.{make_table, seat_at, cards_left}
use Rattle.decisions_spec.specs.Turn.{turn_conditions, waiting_place_of, waiting_hand_of}
use Rattle.decisions_spec.specs.Card.{card_ahead, purse_short}

-- 19 no pair: different ranks, or not exactly two cards; 20 the seat has all its hands (request 2.5, both in the place of 13).
unfoldable pub split_conditions : Table → ℕ → ℕ → List Condition
split_conditions t j p =
    turn_conditions t j p
    ++ (19, not (is_pair (cards_of (waiting_hand_of t j).hand)))
    ∷ (20, leb t.options.hands (length (hands (seat_at t j))))
    ∷ (15, purse_short (seat_at t j))
    ∷ (18, ltb (cards_left t) 2)
    ∷ []

-- The card at a place of the hand whose turn it is.
abbrev pub pair_card_of : Table → ℕ → ℕ → ℕ
pair_card_of t j k = get_or (cards_of (waiting_hand_of t j).hand) k 0

-- A hand of a kept card and a drawn one; from split aces where the kept card is an ace.
abbrev pub split_hand : ℕ → ℕ → SeatHand
split_hand kept card =
    record { hand = with_card (with_card empty_hand kept) card; origin = cond (is_ace kept) split_aces split; ended = not_ended }

-- The places with the parent at p and the new hand behind it; later hands move up one.
abbrev pub split_places : List SeatHand → ℕ → SeatHand → SeatHand → List SeatHand
split_places places p parent new = take 4 (take p places ++ parent ∷ new ∷ drop (suc p) places)

-- The first card that the first split draws is kept for the side stakes; later splits change nothing (request 2.6).
abbrev pub split_first : Seat → ℕ → List ℕ
split_first s card = cond (eqb s.hands.many 1) (set s.first 2 card) s.first

-- A guest's money with the stake laid again.
abbrev pub staked_again : Money → Money
staked_again m = with_purse m (m.purse - m.stake)

unfoldable pub split_effect : Table → ℕ → Table
split_effect t j =
    let s = map_guests staked_again (seat_at t j) in
    let parent = split_hand (pair_card_of t j 0) (card_ahead t 0) in
    let new = split_hand (pair_card_of t j 1) (card_ahead t 1) in
    make_table t.options t.tray
    (set t.seats j
    (make_seat s.money s.others
    (record { places = split_places s.hands.places (waiting_place_of t j) parent new; many = s.hands.many + 1 })
    (split_first s (card_ahead t 0))))
    t.bank (with_drawn t.shoe 2)
