-- The match's range is the definition's two tests.
use native.Mathlib.Omega.{arith}
use borrow.Author.Tests.{le-leb, lt-leb}
use Rattle.script.specs.Number.{digit_of}
use Rattle.script.proofs.digit.Goals as goal

pub returns-in-48-to-57 : goal.returns-in-48-to-57
unfolding digit_of
returns-in-48-to-57 c = simp (le-leb 48 _ c.in-48-to-57.if-letter-lt48-own.false, le-leb c.args.letter 57 (omega arith))

pub returns-in_default : goal.returns-in_default
unfolding digit_of
returns-in_default c = simp (lt-leb 48 _ c.in_default.if-letter-lt48-own.true)

pub returns-in_default-2 : goal.returns-in_default-2
unfolding digit_of
returns-in_default-2 c = simp (le-leb 48 _ c.in_default.if-letter-lt48-own.false, lt-leb c.args.letter 57 (omega arith))
