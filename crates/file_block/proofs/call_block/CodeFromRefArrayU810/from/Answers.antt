-- The amount lies in the last eight bytes.
use native.Mathlib.Omega.{arith}
use Rattle.file_block.proofs.Bytes.{number_of_8}
use Rattle.file_block.proofs.call_block.CodeFromRefArrayU810.from.Goals as goal

pub returns : goal.returns
returns c = rw (c.from_le_bytes-amount.ensures, number_of_8 c.args.bytes.now 2 (omega arith))
