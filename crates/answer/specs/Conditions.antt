-- Document 01, "Who can bring about which number": the conditions that several calls ask, each with its number.
use Rattle.std.specs.Prelude.{not, List, [], ◌∷◌, ◌++◌, ℕ, leb, eqb}
use Rattle.call.specs.Refusal.{Condition}
use Rattle.table.specs.declared.Table.{Table}
use Rattle.table.specs.Seat.{is_staked, decider}
use Rattle.table.specs.Table.{seat_at, guest_of, is_dealt, no_such_seat}
use Rattle.table.specs.Broken.{broken}

-- 4: a round is dealt.
abbrev pub between_rounds : Table → Condition
between_rounds t = (4, is_dealt t)

-- 5: no round is dealt.
abbrev pub in_round : Table → Condition
in_round t = (5, not (is_dealt t))

-- What every call of a seat asks first: 1 broken, its phase, 8 no such seat.
unfoldable pub seat_conditions : Condition → Table → ℕ → List Condition
seat_conditions phase t j = (1, broken t) ∷ phase ∷ (8, no_such_seat t j) ∷ []

-- 22: no such position (request 2.8). What every call of a guest asks first.
abbrev pub no_position : ℕ → Condition
no_position p = (22, leb 3 p)

unfoldable pub guest_conditions : Condition → Table → ℕ → ℕ → List Condition
guest_conditions phase t j p = seat_conditions phase t j ++ no_position p ∷ []

-- 10: no stake in this round, of that guest.
abbrev pub no_stake : Table → ℕ → ℕ → Condition
no_stake t j p = (10, not (is_staked (guest_of t j p)))

-- 23: not the deciding guest (request 2.8).
abbrev pub not_deciding : Table → ℕ → ℕ → Condition
not_deciding t j p = (23, not (eqb (decider t.options (seat_at t j)) p))
