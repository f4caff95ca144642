-- The open block, where it has a call.
use borrow.Author.Tests.{eq-eqb, ne_eqb}
use Rattle.file_spec.specs.Writer.{ended}
use Rattle.file_writer.proofs.writer.Writer.end.Goals as goal

pub returns-then-self-eq0 : goal.returns-then-self-eq0
unfolding ended
returns-then-self-eq0 c = rw (eq-eqb _ 0 c.if-self-eq0.true)

pub returns : goal.returns
unfolding ended
returns c = rw (ne_eqb _ 0 c.if-self-eq0.false, c.call_block.ensures)
