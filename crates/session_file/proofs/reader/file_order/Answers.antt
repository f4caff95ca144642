-- The order of the first block.
use mathlib.Core.Path.{◌∙◌}
use Rattle.session_file.proofs.reader.file_order.Goals as goal

pub returns : goal.returns
returns c = c.part.ensures ∙ rw (c.from.ensures, c.byte_at.ensures, c.part-start.ensures)
