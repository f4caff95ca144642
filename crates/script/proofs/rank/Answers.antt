-- The match's letters and its range are the definition's tests.
use native.Mathlib.Omega.{arith}
use borrow.Author.Tests.{le-leb, lt-leb, ne_eqb}
use Rattle.script.specs.Cards.{rank_named}
use Rattle.script.proofs.rank.Goals as goal

pub returns-in-84 : goal.returns-in-84
unfolding rank_named
returns-in-84 c = simp c.in-84.is

pub returns-in-74 : goal.returns-in-74
unfolding rank_named
returns-in-74 c = simp c.in-74.is

pub returns-in-81 : goal.returns-in-81
unfolding rank_named
returns-in-81 c = simp c.in-81.is

pub returns-in-75 : goal.returns-in-75
unfolding rank_named
returns-in-75 c = simp c.in-75.is

pub returns-in-50-to-57 : goal.returns-in-50-to-57
unfolding rank_named
returns-in-50-to-57 c = simp (le-leb 50 _ c.in-50-to-57.if-letter-lt50-own.false, le-leb c.args.letter 57 (omega arith))

pub returns-in_default : goal.returns-in_default
unfolding rank_named
returns-in_default c =
    let rest = c.in_default.in_default-own.rest in
    simp (lt-leb 50 _ c.in_default.if-letter-lt50-own.true, ne_eqb _ _ rest.0.0.0.1, ne_eqb _ _ rest.0.0.1, ne_eqb _ _ rest.0.1, ne_eqb _ _ rest.1)

pub returns-in_default-2 : goal.returns-in_default-2
unfolding rank_named
returns-in_default-2 c =
    let letter = c.args.letter in
    let rest = c.in_default.in_default-own.rest in
    simp (le-leb 50 _ c.in_default.if-letter-lt50-own.false, lt-leb letter 57 (omega arith), ne_eqb _ _ rest.0.0.0.1, ne_eqb _ _ rest.0.0.1, ne_eqb _ _ rest.0.1, ne_eqb _ _ rest.1)
