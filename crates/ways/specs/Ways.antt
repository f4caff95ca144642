-- Request 2.11: the lawful lists, one after the other, by the engine's own step. What close would give says where a table stands: 0 a list ends here, 7 a hand waits and each decision
-- that is accepted goes on, else (18) nothing.
use Rattle.std.specs.Prelude.{cond, List, [], ◌∷◌, map, ℕ, zero, suc, eqb}
use Rattle.lists.specs.Flat.{flat}
use Rattle.call.specs.declared.At.{At}
use Rattle.call.specs.declared.Call.TheVariants.{Close}
use Rattle.table.specs.declared.Table.{Table}
use Rattle.engine.specs.Step.{number, next}
use Rattle.ways.specs.Decisions.{decision_kinds, decision}
use Rattle.ways.specs.Lawful.{player, most_decisions}

-- Where a list ends, that is the empty one; where a hand waits, those that go on.
abbrev pub end_or : Table → List (List ℕ) → List (List ℕ)
end_or t going_on = cond (eqb (number t Close []) 0) ([] ∷ []) (cond (eqb (number t Close []) 7) going_on [])

-- The lists that begin with this decision, `rest` being those of the table that it leaves; none where it is refused.
unfoldable pub beginning : (Table → List (List ℕ)) → Table → At → ℕ → List (List ℕ)
beginning rest t at kind = cond (eqb (number t (decision at kind) []) 0) (map (λ decisions. kind ∷ decisions) (rest (next t (decision at kind) []))) []

-- The lists of at most so many decisions of that guest, from a table on.
unfoldable pub ways_from : ℕ → At → Table → List (List ℕ)
ways_from zero at t = end_or t []
ways_from (suc n) at t = end_or t (flat (beginning (ways_from n at) t at) decision_kinds)

abbrev pub ways : Table → List (List ℕ)
ways t = ways_from most_decisions (player t) t
