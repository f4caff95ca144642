-- Each option at its place.
use Rattle.std.proofs.Common.{◌∙◌}
use Rattle.file_spec.specs.Block.{little_endian}
use Rattle.file_writer.proofs.LittleEndian.{bytes_2, bytes_4}
use Rattle.file_writer.proofs.blocks.option_bytes.Goals as goal

pub returns : goal.returns
unfolding little_endian
returns c =
    let o = c.args.o in
    rw (c.to_le_bytes-cut.ensures ∙ bytes_2 o.cut, c.to_le_bytes-smallest.ensures ∙ bytes_4 o.smallest, c.to_le_bytes-largest.ensures ∙ bytes_4 o.largest)
