-- The bytes of the calls, ten by ten.
use native.Mathlib.Omega.{arith}
use Prim.Native.Nat.{◌+◌, ◌-◌, ◌*◌}
use mathlib.Core.Path.{◌∙◌}
use Rattle.file_spec.specs.CallBlock.{many_in}
use Rattle.file_block.proofs.Pieces.{codes_are}
use Rattle.file_block.proofs.call_block.codes.Goals as goal

pub returns : goal.returns
returns c = c.as_chunks.ensures.front ∙ codes_are c.args.block.now (1 + 10 * many_in c.args.block.now - 1) (omega arith) (omega (arith, c.requires))
