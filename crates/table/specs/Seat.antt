-- Document 01, "The seventeen calls", the guest, and requests 2.6 and 2.8: a seat, the money of its guests and its hands; what a guest has laid and won in this round. A seat is
-- read as that of the guest in position 0, the seated one; `guest_at` reads it as that of another, as if alone there.
use Rattle.std.specs.Prelude.{Bool, cond, ◌&&◌, ◌||◌, List, [], ◌∷◌, map, ℕ, ◌+◌, ◌-◌, ltb, eqb, length, take, get_or, set, replicate}
use Rattle.lists.specs.Sum.{sum_of}
use Rattle.lists.specs.Flat.{flat}
use Rattle.cards.specs.Hand.{empty_hand}
use Rattle.options.specs.declared.Options.{Options}
use Rattle.options.specs.Decider.{deciding_position}
use Rattle.rules.specs.declared.seat_hand.SeatHand.{SeatHand}
use Rattle.rules.specs.declared.seat_hand.SeatHands.{SeatHands}
use Rattle.rules.specs.SeatHand.{Played, hands_of, dealt, not_ended}
use Rattle.payment.specs.Wager.{wager}
use Rattle.payment.specs.Prize.{prize}
use Rattle.payment.specs.Bets.{Bets, bets, all_sides}
use Rattle.payment.specs.Cover.{cover, side_cover}
use Rattle.table.specs.declared.Money.{Money}
use Rattle.table.specs.declared.Seat.{Seat}
use Rattle.table.specs.Guest.{holding, missing_money}

abbrev pub make_seat : Money → List Money → SeatHands → List ℕ → Seat
make_seat m others hands first = record { money = m; others = others; hands = hands; first = first }

-- A place that no hand uses, and a seat's four places with no hand.
abbrev pub empty_place : SeatHand
empty_place = record { hand = empty_hand; origin = dealt; ended = not_ended }

abbrev pub empty_hands : SeatHands
empty_hands = record { places = replicate 4 empty_place; many = 0 }

-- A seat with no money and no hand.
abbrev pub empty_seat : Seat
empty_seat = make_seat (holding 0) (replicate 2 (holding 0)) empty_hands (replicate 3 0)

-- A seat at the end of a round: no stake of any kind, no insurance and no hand, and these purses, by position.
abbrev pub cleared_seat : (ℕ → ℕ) → Seat
cleared_seat purse = make_seat (holding (purse 0)) (holding (purse 1) ∷ holding (purse 2) ∷ []) empty_hands (replicate 3 0)

-- What stands where a seat has no such place, or the table no such seat.
abbrev pub missing_place : SeatHand
missing_place = record { hand = record { cards = []; count = 0 }; origin = dealt; ended = not_ended }

abbrev pub missing_seat : Seat
missing_seat = make_seat missing_money [] (record { places = []; many = 0 }) []

-- The guest's purse, stake S and insurance; 0 where there is none.
abbrev pub purse : Seat → ℕ
purse s = s.money.purse

abbrev pub stake : Seat → ℕ
stake s = s.money.stake

abbrev pub insurance : Seat → ℕ
insurance s = s.money.insurance

-- The seat with other money of the seated guest.
abbrev pub with_money : Seat → Money → Seat
with_money s m = make_seat m s.others s.hands s.first

-- The seat as that of the guest in this position (request 2.8), as if alone there; a position that it does not have holds nothing.
unfoldable pub guest_at : Seat → ℕ → Seat
guest_at s p = cond (eqb p 0) s (with_money s (get_or s.others (p - 1) missing_money))

-- The seat with other money of that guest, and with all its guests' money so changed.
unfoldable pub with_guest : Seat → ℕ → Money → Seat
with_guest s p m = cond (eqb p 0) (with_money s m) (make_seat s.money (set s.others (p - 1) m) s.hands s.first)

abbrev pub map_guests : (Money → Money) → Seat → Seat
map_guests f s = make_seat (f s.money) (map f s.others) s.hands s.first

-- A number summed over the three guests of a seat, and a question that one of them, or each of them, answers with yes.
abbrev pub over_guests : (Seat → ℕ) → Seat → ℕ
over_guests f s = f (guest_at s 0) + f (guest_at s 1) + f (guest_at s 2)

abbrev pub any_guest : (Seat → Bool) → Seat → Bool
any_guest f s = f (guest_at s 0) || f (guest_at s 1) || f (guest_at s 2)

abbrev pub each_guest : (Seat → Bool) → Seat → Bool
each_guest f s = f (guest_at s 0) && f (guest_at s 1) && f (guest_at s 2)

-- The guest's side stakes, by kind.
abbrev pub sides : Seat → List ℕ
sides s = s.money.sides

-- The guest has a stake. A seat is staked where its seated guest is: nobody stakes before.
abbrev pub is_staked : Seat → Bool
is_staked s = ltb 0 (stake s)

-- The seat's hands, by place.
abbrev pub hands : Seat → List Played
hands s = hands_of s.hands

-- The cards of its hands, by place.
abbrev pub seat_cards : Seat → List ℕ
seat_cards s = flat (λ h. h.cards) (hands s)

-- Its first cards (request 2.6): the two that were dealt, and, where they were split, the first card that the split drew. A seat without a hand has none that
-- mean anything.
abbrev pub first_cards : Seat → List ℕ
first_cards s = take (cond (eqb (length (hands s)) 1) 2 3) s.first

-- The position of the guest who decides for the seat (request 2.8).
abbrev pub decider : Options → Seat → ℕ
decider o s = deciding_position o (stake (guest_at s 0)) (stake (guest_at s 1)) (stake (guest_at s 2))

-- What the guest has on the layout.
abbrev pub bets_of : Seat → Bets
bets_of s = bets (stake s) (insurance s) (sides s) (first_cards s) (hands s)

-- What the guest has laid in this round: the stake before the deal; after it the wagers of the hands and the insurance; the side stakes.
unfoldable pub laid : Seat → ℕ
laid s = cond (eqb (length (hands s)) 0) (stake s) (sum_of (wager (stake s)) (hands s) + insurance s) + all_sides (sides s)

-- The guest's prizes in this round: a prize hand totals 21 and never changes again.
unfoldable pub prizes : Options → Seat → ℕ
prizes o s = sum_of (prize o (stake s)) (hands s)

-- What the tray must hold for the guest at the deal.
abbrev pub seat_cover : Seat → ℕ
seat_cover s = cover (stake s) + side_cover (sides s)
