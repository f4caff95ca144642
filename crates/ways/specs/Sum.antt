-- Request 2.11: the sum of a list's pay lines and prizes: the nets of all lines that close shows behind it, and the prizes paid in the round, signed.
use Rattle.std.specs.Prelude.{List, [], ◌∷◌, ℕ, ℤ, pos, ◌+ℤ◌}
use Rattle.call.specs.declared.Call.TheVariants.{Close}
use Rattle.call.specs.PayLine.{PayLine}
use Rattle.table.specs.declared.Table.{Table}
use Rattle.table.specs.Money.{all_prizes}
use Rattle.engine.specs.Step.{step}
use Rattle.engine.specs.Run.{run}
use Rattle.ways.specs.Decisions.{plays}
use Rattle.ways.specs.Lawful.{player}

unfoldable pub nets_of_lines : List PayLine → ℤ
nets_of_lines [] = pos 0
nets_of_lines (l ∷ ls) = l.net +ℤ nets_of_lines ls

-- On the table where a list ends.
unfoldable pub end_sum : Table → ℤ
end_sum t = nets_of_lines (step t Close []).answer.shown.lines +ℤ pos (all_prizes t)

abbrev pub way_sum : Table → List ℕ → ℤ
way_sum t decisions = end_sum (run t (plays (player t) decisions))
