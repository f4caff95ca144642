-- The test is the definition's.
use borrow.Author.Tests.{lt-ltb, le-ltb}
use Rattle.session_file.proofs.reader.call_place.Goals as goal

pub returns-then-start-file : goal.returns-then-start-file
returns-then-start-file c = simp (lt-ltb _ _ c.if-start-file.true)

pub returns-else-start-file : goal.returns-else-start-file
returns-else-start-file c = simp (le-ltb _ _ c.if-start-file.false)
