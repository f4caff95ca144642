-- Document 01, "The seventeen calls", the guest: the decisions in turn (stand, draw, double, split, even, five). The conditions that all six share, the
-- hand whose turn it is, and what becomes of a hand that a decision ends.
use Rattle.std.specs.Prelude.{Bool, not, List, [], ◌∷◌, ◌++◌, ℕ, eqb, length}
use Rattle.call.specs.Refusal.{Condition}
use Rattle.options.specs.declared.Options.{Options}
use Rattle.rules.specs.declared.seat_hand.SeatHand.{SeatHand}
use Rattle.rules.specs.SeatHand.{Played, played_of}
use Rattle.rules.specs.Turn.{turn_seat, waiting_place}
use Rattle.table.specs.declared.Table.{Table}
use Rattle.table.specs.Seat.{hands}
use Rattle.table.specs.Table.{with_seat, seat_at, seats_hands, up}
use Rattle.decisions_spec.specs.Place.{place_of, with_place, ended_by}
use Rattle.answer.specs.Conditions.{in_round, guest_conditions, no_stake, not_deciding}

-- 11 not that seat's turn, also where no hand on the table waits; 23 not the deciding guest (request 2.8).
unfoldable pub turn_conditions : Table → ℕ → ℕ → List Condition
turn_conditions t j p = guest_conditions (in_round t) t j p ++ no_stake t j p ∷ (11, not (eqb (turn_seat t.options (up t) (seats_hands t)) j)) ∷ not_deciding t j p ∷ []

-- The place of the seat's first waiting hand, and that hand.
abbrev pub waiting_place_of : Table → ℕ → ℕ
waiting_place_of t j = waiting_place t.options (up t) (hands (seat_at t j))

abbrev pub waiting_hand_of : Table → ℕ → SeatHand
waiting_hand_of t j = place_of (seat_at t j) (waiting_place_of t j)

-- What the rules say of that hand (`permits`, over the options, the up card and the seat's number of hands).
abbrev pub may_take : (Options → ℕ → ℕ → Played → Bool) → Table → ℕ → Bool
may_take permits t j = permits t.options (up t) (length (hands (seat_at t j))) (played_of (waiting_hand_of t j))

-- The hand whose turn it is ends by this decision.
unfoldable pub end_effect : ℕ → Table → ℕ → Table
end_effect code t j = with_seat t j (with_place (seat_at t j) (waiting_place_of t j) (ended_by (waiting_hand_of t j) code))
