-- Request 2.6, articles 13 and 14: a side stake, from purse to layout, before the deal, of a guest who has a stake, once for each kind. Its conditions, and its effect:
-- the amount leaves the guest's purse and is the side stake of that kind, and nothing else changes.
use Rattle.std.specs.Prelude.{Bool, not, ◌&&◌, List, [], ◌∷◌, ◌++◌, ℕ, leb, ltb}
use Rattle.call.specs.Refusal.{Condition}
use Rattle.options.specs.Permitted.{side_permitted}
use Rattle.payment.specs.Bets.{side}
use Rattle.table.specs.declared.Table.{Table}
use Rattle.table.specs.Guest.{siding}
use Rattle.table.specs.Seat.{with_guest, purse, sides}
use Rattle.table.specs.Table.{with_seat, seat_at, guest_of}
use Rattle.answer.specs.Conditions.{between_rounds, seat_conditions, no_position, no_stake}

-- The kinds are 1 any pair, 2 sevens, 3 more than 13, 4 less than 13.
unfoldable pub is_side_kind : ℕ → Bool
is_side_kind k = leb 1 k && leb k 4

-- 1 broken, 4 a round is dealt, 8 no such seat, 21 unknown kind, 22 no such position, 9 that kind was laid already, 10 no stake, 14 not 1 to 100,000, 15 the purse below it.
unfoldable pub side_conditions : Table → ℕ → ℕ → ℕ → ℕ → List Condition
side_conditions t j p k n =
    seat_conditions (between_rounds t) t j
    ++ (21, not (is_side_kind k))
    ∷ no_position p
    ∷ (9, ltb 0 (side (sides (guest_of t j p)) k))
    ∷ no_stake t j p
    ∷ (14, not (side_permitted n))
    ∷ (15, ltb (purse (guest_of t j p)) n)
    ∷ []

unfoldable pub side_effect : Table → ℕ → ℕ → ℕ → ℕ → Table
side_effect t j p k n = with_seat t j (with_guest (seat_at t j) p (siding (guest_of t j p).money k n))
