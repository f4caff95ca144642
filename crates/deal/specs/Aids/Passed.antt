-- The two passes of a deal differ only in the hand that a seat's card goes to; so one value tells them apart. `first` is true in the first pass.
use Rattle.std.specs.Prelude.{Bool, cond, ℕ, ◌+◌, get_or}
use Rattle.cards.specs.declared.hand.Hand.{Hand}
use Rattle.cards.specs.Hand.{empty_hand, with_card}
use Rattle.rules.specs.declared.seat_hand.SeatHands.{SeatHands}
use Rattle.rules.specs.SeatHand.{dealt, not_ended}
use Rattle.table.specs.declared.Seat.{Seat}
use Rattle.table.specs.declared.Table.{Table}
use Rattle.table.specs.Seat.{missing_place, is_staked}
use Rattle.table.specs.Table.{make_table}
use Rattle.deal_spec.specs.Pass.{with_only, pass}

-- An empty hand in the first pass, that of the first place in the second.
abbrev pub hand_for : Bool → SeatHands → Hand
hand_for first hands = cond first empty_hand (get_or hands.places 0 missing_place).hand

-- The seat with its card: the first card of a deal or the second.
abbrev pub give : Bool → Seat → ℕ → Seat
give first s card = with_only s (record { hand = with_card (hand_for first s.hands) card; origin = dealt; ended = not_ended }) (cond first 0 1) card

-- What a pass makes of a seat: with the card where it has a stake.
abbrev pub serve : Bool → Seat → ℕ → Seat
serve first s card = cond (is_staked s) (give first s card) s

-- The table after a pass from the card `at` behind the next one.
abbrev pub passed : Bool → ℕ → Table → Table
passed first at t =
    make_table t.options t.tray (pass (give first) t.shoe.order (t.shoe.drawn + at) t.seats) t.bank t.shoe
