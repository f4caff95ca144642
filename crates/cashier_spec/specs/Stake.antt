-- Document 01, "The seventeen calls", the guest: "stake: from purse to layout, one per seat a round", of a position; the seated guest stakes first
-- (request 2.8). A stake's conditions, and its effect: the amount leaves the guest's purse and is the stake, and nothing else changes.
use Rattle.std.specs.Prelude.{not, ◌&&◌, List, [], ◌∷◌, ◌++◌, ℕ, eqb, ltb}
use Rattle.call.specs.Refusal.{Condition}
use Rattle.table.specs.declared.Table.{Table}
use Rattle.table.specs.Guest.{staking}
use Rattle.table.specs.Seat.{with_guest, purse, is_staked}
use Rattle.table.specs.Table.{with_seat, seat_at, guest_of}
use Rattle.options.specs.Permitted.{stake_permitted}
use Rattle.answer.specs.Conditions.{between_rounds, guest_conditions}

-- 1 broken, 4 a round is dealt, 8 no such seat, 22 no such position, 9 staked already, 10 the seated guest has not staked, 14 amount 0, outside its option or odd, 15 the purse below what is asked.
unfoldable pub stake_conditions : Table → ℕ → ℕ → ℕ → List Condition
stake_conditions t j p n =
    guest_conditions (between_rounds t) t j p
    ++ (9, is_staked (guest_of t j p))
    ∷ (10, not (eqb p 0) && not (is_staked (seat_at t j)))
    ∷ (14, eqb n 0)
    ∷ (14, not (stake_permitted t.options n))
    ∷ (15, ltb (purse (guest_of t j p)) n)
    ∷ []

unfoldable pub stake_effect : Table → ℕ → ℕ → ℕ → Table
stake_effect t j p n = with_seat t j (with_guest (seat_at t j) p (staking (guest_of t j p).money n))
