-- Request 2.11: what is answered. The count, or the list at a place from 0 with its sum; 1 for a broken table, 5 where no round is dealt, 13 where a second seat or position is staked or a
-- decision was taken already. It is no call: there is no table after it.
use Rattle.std.specs.Prelude.{Bool, true, false, cond, ◌&&◌, List, [], ◌∷◌, ℕ, ltb, eqb, ℤ, pos, length, take, get_or}
use Rattle.lists.specs.Sum.{sum_of}
use Rattle.call.specs.Refusal.{Condition, first}
use Rattle.table.specs.declared.Seat.{Seat}
use Rattle.table.specs.declared.Table.{Table}
use Rattle.table.specs.Seat.{over_guests, is_staked}
use Rattle.table.specs.Progress.{any_decided}
use Rattle.table.specs.Broken.{broken}
use Rattle.answer.specs.Conditions.{in_round}
use Rattle.ways.specs.declared.WaysCount.{WaysCount}
use Rattle.ways.specs.declared.Way.{Way}
use Rattle.ways.specs.Ways.{ways}
use Rattle.ways.specs.Sum.{way_sum}

-- How many guests have a stake, of a seat and of the table.
abbrev pub staked_of : Seat → ℕ
staked_of s = over_guests (λ guest. cond (is_staked guest) 1 0) s

unfoldable pub staked_guests : Table → ℕ
staked_guests t = sum_of staked_of t.seats

unfoldable pub ways_conditions : Table → List Condition
ways_conditions t = (1, broken t) ∷ in_round t ∷ (13, ltb 1 (staked_guests t)) ∷ (13, any_decided t) ∷ []

unfoldable pub ways_number : Table → ℕ
ways_number t = first (ways_conditions t)

-- The count; 0 beside a number.
unfoldable pub count_of_ways : Table → WaysCount
count_of_ways t = record { number = ways_number t; count = cond (eqb (ways_number t) 0) (length (ways t)) 0 }

-- What is handed out for a place: whether there is such a list, its decisions and its sum.
pub record WayView : Type 0 where
  pub number : ℕ
  pub found : Bool
  pub decisions : List ℕ
  pub sum : ℤ

abbrev pub make_way : ℕ → Bool → List ℕ → ℤ → WayView
make_way number found decisions sum = record { number = number; found = found; decisions = decisions; sum = sum }

-- Nothing: beside a number, and past the last.
abbrev pub no_way : ℕ → WayView
no_way number = make_way number false [] (pos 0)

unfoldable pub way_at : Table → ℕ → WayView
way_at t place =
    cond (eqb (ways_number t) 0 && ltb place (length (ways t))) (make_way 0 true (get_or (ways t) place []) (way_sum t (get_or (ways t) place [])))
    (no_way (ways_number t))

-- The struct of the code holds the decisions with their number.
abbrev pub way_of : Way → WayView
way_of w = make_way w.number w.found (take w.length w.decisions) w.sum
