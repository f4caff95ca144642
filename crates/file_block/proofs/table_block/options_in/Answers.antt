-- Each option lies at its place.
use native.Mathlib.Omega.{arith}
use Rattle.file_spec.specs.TableBlock.{options_in}
use Rattle.file_block.proofs.Bytes.{number_of_2, number_of_4}
use Rattle.file_block.proofs.table_block.options_in.Goals as goal

pub returns : goal.returns
unfolding options_in
returns c =
    let block = c.args.block.now in
    rw (c.from_le_bytes.ensures, c.from_le_bytes-2.ensures, c.from_le_bytes-3.ensures, number_of_2 block 13 (omega arith), number_of_4 block 15 (omega arith), number_of_4 block 19 (omega arith))
