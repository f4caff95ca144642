-- Counts that are not 52 are refused; 52 of them are copied and asked.
use mathlib.Core.Path.{◌∙◌, ap}
use mathlib.Core.List.{List}
use Prim.Native.Nat.{ℕ}
use lib.ListN.{length}
use borrow.Author.Tests.{eq-eqb, ne_eqb}
use Rattle.bank_chances.specs.Chances.{chances_of}
use Rattle.discgauze.specs.Chances.{chances_by}
use Rattle.discgauze.proofs.chances.discgauze_chances.Goals as goal

pub returns-then-left-ne52 : goal.returns-then-left-ne52
unfolding chances_by
returns-then-left-ne52 c = c.refused.ensures ∙ rw (ne_eqb (length c.args.left.now) 52 c.if-left-ne52.true)

pub returns : goal.returns
unfolding chances_by
returns c =
    let a = c.args in
    c.chances.ensures ∙ ap (λ (l : List ℕ). chances_of a.up l a.depth) c.faces_of.ensures ∙ rw (eq-eqb (length a.left.now) 52 c.if-left-ne52.false)
