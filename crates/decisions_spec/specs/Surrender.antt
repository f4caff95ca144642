-- Document 01, "The seventeen calls", the guest: surrender (up card no ace; before anyone has drawn, doubled or split in this round, out of turn, while
-- that seat's hand waits), article 18. When it is refused, and the table after it; the pay waits for close.
use Rattle.std.specs.Prelude.{not, List, [], ◌∷◌, ◌++◌, ℕ}
use Rattle.call.specs.Refusal.{Condition}
use Rattle.cards.specs.Card.{is_ace}
use Rattle.rules.specs.SeatHand.{by_surrender}
use Rattle.rules.specs.Turn.{seat_waits}
use Rattle.table.specs.declared.Table.{Table}
use Rattle.table.specs.Seat.{hands}
use Rattle.table.specs.Table.{with_seat, seat_at, up}
use Rattle.decisions_spec.specs.Place.{place_of, with_place, ended_by}
use Rattle.table.specs.Progress.{any_drew}
use Rattle.answer.specs.Conditions.{in_round, guest_conditions, no_stake, not_deciding}

-- 12 comes from lateness or from a hand that does not wait; nobody has split then, so the seat has one hand.
unfoldable pub surrender_conditions : Table → ℕ → ℕ → List Condition
surrender_conditions t j p =
    guest_conditions (in_round t) t j p
    ++ no_stake t j p
    ∷ not_deciding t j p
    ∷ (12, any_drew t)
    ∷ (12, not (seat_waits t.options (up t) (hands (seat_at t j))))
    ∷ (13, is_ace (up t))
    ∷ []

unfoldable pub surrender_effect : Table → ℕ → Table
surrender_effect t j = with_seat t j (with_place (seat_at t j) 0 (ended_by (place_of (seat_at t j) 0) by_surrender))
