-- The calls before the last are among the block's.
use Rattle.std.proofs.Common.{◌≡◌, sym, arith, ◌-◌, length}
use lib.Seq.{length-take-le}
use Rattle.file_spec.specs.CallBlock.{many_in}
use Rattle.file_block.proofs.Pieces.{codes_many}
use Rattle.file_block.proofs.call_block.has_calls.Goals as goal

pub slice_bounds-has_load-length : goal.slice_bounds-has_load-length
slice_bounds-has_load-length c =
    let codes = c.codes-codes.result.now in
    let many : length codes ≡ many_in c.args.block.now = rw c.codes-codes.ensures (codes_many c.args.block.now) in
    sym (length-take-le (many_in c.args.block.now - 1) codes (omega arith))
