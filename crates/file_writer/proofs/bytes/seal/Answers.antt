-- The check of the first 508 bytes, laid behind them.
use Rattle.std.proofs.Common.{◌≡◌, ◌∙◌, ap, length, rules}
use Rattle.file_spec.specs.Block.{little_endian}
use Rattle.file_writer.proofs.LittleEndian.{bytes_4}
use Rattle.file_writer.proofs.Fills.{sealed_here}
use Rattle.file_writer.proofs.bytes.seal.Goals as goal

pub returns : goal.returns
returns c =
    let check = c.to_le_bytes-check.result in
    let four : length check ≡ 4 = search rules in
    c.put.ensures ∙ sealed_here c.args.block.now check c.told-block four (c.to_le_bytes-check.ensures ∙ bytes_4 c.check_sum.result ∙ ap (little_endian 4) c.check_sum.ensures)
