-- Request 2.12: no smaller amount is accepted than the one that a field is lit by; what is beyond the options and a broken table are dark; the first row is the hand whose turn it is; every hand
-- stands in exactly one row.
use Rattle.std.specs.Prelude.{◌≡◌, Bool, true, false, cond, ◌&&◌, [], ◌∷◌, ℕ, ◌≤◌, ltb, eqb, length, get_or}
use Rattle.lists.specs.Tests.{those}
use Rattle.call.specs.declared.At.{At}
use Rattle.call.specs.declared.Call.TheVariants.{Buy, Cash, Stake, Insure, Side}
use Rattle.table.specs.declared.Table.{Table}
use Rattle.table.specs.Seat.{missing_place, hands}
use Rattle.table.specs.Table.{seat_at}
use Rattle.table.specs.Broken.{broken}
use Rattle.state.specs.Turn.{seat_in_turn, place_in_turn, any_waits}
use Rattle.dealer_screen.specs.declared.lights.Lights.{Lights}
use Rattle.dealer_screen.specs.declared.rows.Row.{Row}
use Rattle.dealer_screen.specs.Lights.{accepts, smallest_stake, smallest_insurance, lights_at}
use Rattle.dealer_screen.specs.Rows.{row, no_row, all_rows}

-- The amounts by which fields are lit are the smallest that are ever accepted.
pub record Smallest (t : Table) (at : At) : Type 0 where
  pub buy : (n : ℕ) → accepts t (Buy at n) ≡ true → 1 ≤ n
  pub cash : (n : ℕ) → accepts t (Cash at n) ≡ true → 1 ≤ n
  pub stake : (n : ℕ) → accepts t (Stake at n) ≡ true → smallest_stake t ≤ n
  pub insure : (n : ℕ) → accepts t (Insure at n) ≡ true → smallest_insurance t at ≤ n
  pub side : (k n : ℕ) → accepts t (Side at k n) ≡ true → 1 ≤ n

-- No field is lit.
abbrev pub dark : Lights
dark =
    record { buy = false; cash = false; stake = false; insure = false; stand = false; draw = false; double = false; split = false; surrender = false; even = false; five = false; pair = false; sevens = false; more = false; less = false }

pub record Dark (t : Table) (at : At) : Type 0 where
  pub if_broken : broken t ≡ true → lights_at t at ≡ dark
  pub no_seat : t.options.seats ≤ at.seat → lights_at t at ≡ dark
  pub no_position_lem : 3 ≤ at.position → lights_at t at ≡ dark

-- Where a hand waits, the first row is the one whose turn it is.
pub record FirstRow (t : Table) : Type 0 where
  pub seat : (get_or (all_rows t) 0 no_row).seat ≡ seat_in_turn t
  pub place : (get_or (all_rows t) 0 no_row).place ≡ place_in_turn t

abbrev pub TurnFirst : Table → Type 0
TurnFirst t = broken t ≡ false → any_waits t ≡ true → FirstRow t

-- A row names a seat and a place.
abbrev pub names : ℕ → ℕ → Row → Bool
names seat place r = eqb seat r.seat && eqb place r.place

-- Under every seat and place the rows of a table that is not broken have exactly the hand there, once, and nothing where there is none. Six of them are shown, the others are counted.
abbrev pub EachOnce : Table → Type 0
EachOnce t =
    broken t ≡ false → (seat place : ℕ)
    → those (names seat place) (all_rows t)
    ≡ cond (ltb place (length (hands (seat_at t seat)))) (row seat place (get_or (seat_at t seat).hands.places place missing_place) ∷ []) []
