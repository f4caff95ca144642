-- The tests are the definition's, in its order; 10^16 and a digit fit a number of 64 bits.
use borrow.Author.Tests.{lt-ltb, le-ltb, eq-eqb, ne_eqb}
use Rattle.script.specs.Number.{with_digit}
use Rattle.script.proofs.with_digit.Goals as goal

pub returns-then-letter-eq32 : goal.returns-then-letter-eq32
unfolding with_digit
returns-then-letter-eq32 c = simp (eq-eqb _ 32 c.if-letter-eq32.true)

pub returns-then-n-gt1000000000000000 : goal.returns-then-n-gt1000000000000000
unfolding with_digit
returns-then-n-gt1000000000000000 c = simp (ne_eqb _ 32 c.if-letter-eq32.false, lt-ltb _ c.args.n c.if-n-gt1000000000000000.true)

pub returns : goal.returns
unfolding with_digit
returns c = simp (ne_eqb _ 32 c.if-letter-eq32.false, le-ltb _ c.args.n c.if-n-gt1000000000000000.false, c.digit.ensures)
