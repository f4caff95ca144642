-- The arm of a kind is the call that the definition's tests come to.
use native.Mathlib.Omega.{arith}
use borrow.Author.Tests.{eq-eqb, ne_eqb}
use Rattle.ways.specs.Decisions.{decision}
use Rattle.ways.proofs.decide.decision.Goals as goal

pub returns-in-8 : goal.returns-in-8
unfolding decision
returns-in-8 c = let k = c.args.kind in simp (eq-eqb k 8 (omega arith))

pub returns-in-9 : goal.returns-in-9
unfolding decision
returns-in-9 c = let k = c.args.kind in simp (ne_eqb k 8 (omega arith), eq-eqb k 9 (omega arith))

pub returns-in-10 : goal.returns-in-10
unfolding decision
returns-in-10 c = let k = c.args.kind in simp (ne_eqb k 8 (omega arith), ne_eqb k 9 (omega arith), eq-eqb k 10 (omega arith))

pub returns-in-11 : goal.returns-in-11
unfolding decision
returns-in-11 c = let k = c.args.kind in simp (ne_eqb k 8 (omega arith), ne_eqb k 9 (omega arith), ne_eqb k 10 (omega arith), eq-eqb k 11 (omega arith))

pub returns-in-13 : goal.returns-in-13
unfolding decision
returns-in-13 c =
    let k = c.args.kind in
    simp (ne_eqb k 8 (omega arith), ne_eqb k 9 (omega arith), ne_eqb k 10 (omega arith), ne_eqb k 11 (omega arith), eq-eqb k 13 (omega arith))

pub returns-in_default : goal.returns-in_default
unfolding decision
returns-in_default c =
    let k = c.args.kind in
    simp (ne_eqb k 8 (omega arith), ne_eqb k 9 (omega arith), ne_eqb k 10 (omega arith), ne_eqb k 11 (omega arith), ne_eqb k 13 (omega arith))
