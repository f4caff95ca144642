-- The library's comparison of the first 23 bytes.
use mathlib.Core.Path.{◌∙◌}
use native.Mathlib.Omega.{arith}
use Rattle.file_block.proofs.Conditions.{same_first}
use Rattle.file_block.proofs.table_block.same_options.Goals as goal

pub returns : goal.returns
returns c = c.eq.ensures ∙ same_first 23 c.args.start.now c.args.block.now (omega arith) (omega arith)
