-- The match's letters are the definition's tests.
use borrow.Author.Tests.{ne_eqb}
use Rattle.script.specs.Cards.{suit_named}
use Rattle.script.proofs.suit.Goals as goal

pub returns-in-98 : goal.returns-in-98
unfolding suit_named
returns-in-98 c = simp c.in-98.is

pub returns-in-99 : goal.returns-in-99
unfolding suit_named
returns-in-99 c = simp c.in-99.is

pub returns-in-100 : goal.returns-in-100
unfolding suit_named
returns-in-100 c = simp c.in-100.is

pub returns-in_default : goal.returns-in_default
unfolding suit_named
returns-in_default c =
    let rest = c.in_default.in_default-own.rest in
    simp (ne_eqb _ _ rest.0.0.1, ne_eqb _ _ rest.0.1, ne_eqb _ _ rest.1)
