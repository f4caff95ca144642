-- `check_behind` goes block by block: before each turn what is left gives the number that the whole gives.
use mathlib.Core.Path.{◌≡◌}
use mathlib.Core.Bool.{false}
use lib.ListN.{drop}
use Rattle.file_spec.specs.Number.{number_behind}
use Rattle.session_file.proofs.check.check_behind.Given as goal

abbrev pub invariant-loop-i : goal.invariant-loop-i
invariant-loop-i l = number_behind l.start l.loaded (drop l.i l.blocks) ≡ number_behind l.start false l.blocks
