-- How the list at a place is picked: its first decision with what is left of it, and the whole with the table where it ends.
use Rattle.std.specs.Prelude.{◌≡◌, [], ◌∷◌, ℕ, suc, ◌<◌, length, take, get_or}
use Rattle.call.specs.declared.At.{At}
use Rattle.call.specs.declared.Call.TheVariants.{Close}
use Rattle.table.specs.declared.Table.{Table}
use Rattle.engine.specs.Step.{number, next}
use Rattle.engine.specs.Run.{run}
use Rattle.ways.specs.declared.pick.Onward.{Onward}
use Rattle.ways.specs.declared.pick.Picked.{Picked}
use Rattle.ways.specs.Decisions.{decision, plays}
use Rattle.ways.specs.Ways.{ways_from}

-- The list at that place of the table's begins with the decision and goes on as the one at the place that is left, of the table after it.
pub record GoesOn (t : Table) (at : At) (left place : ℕ) (r : Onward) : Type 0 where
  pub begins : get_or (ways_from (suc left) at t) place [] ≡ r.kind ∷ get_or (ways_from left at r.table) r.place []
  pub inside : r.place < length (ways_from left at r.table)
  pub accepted : number t (decision at r.kind) [] ≡ 0
  pub after : r.table ≡ next t (decision at r.kind) []

-- The list at that place, and the table behind it, on which close is accepted.
pub record Ends (t : Table) (at : At) (place : ℕ) (r : Picked) : Type 0 where
  pub list : take r.length r.decisions ≡ get_or (ways_from 8 at t) place []
  pub behind : r.table ≡ run t (plays at (get_or (ways_from 8 at t) place []))
  pub ends : number r.table Close [] ≡ 0
