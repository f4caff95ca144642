-- The number in the last four bytes against the sum over the others.
use native.Mathlib.Omega.{arith}
use Rattle.file_block.proofs.Bytes.{number_of_4}
use Rattle.file_block.proofs.block.checks.Goals as goal

pub returns : goal.returns
returns c = rw (c.from_le_bytes-check.ensures, c.check_sum.ensures, number_of_4 c.args.block.now 508 (omega arith))
