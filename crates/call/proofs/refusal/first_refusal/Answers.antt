-- The conditions are asked from the front: what the loop has passed over does not hold.
use Rattle.std.proofs.Common.{◌≡◌, sym, ◌∙◌, map, drop, ℕ, ◌+◌, ◌<◌, length, get_or, add-one}
use Rattle.std.proofs.Math.Seq.{drop-cons}
use Rattle.std.proofs.lemmas.List.{drop_all}
use mathlib.Core.Bool.{Bool, false}
use mathlib.Core.List.{List}
use Rattle.call.specs.declared.refusal.Refusal.{Refusal}
use Rattle.call.specs.declared.refusal.Refusal.TheVariants.{Broken}
use Rattle.call.specs.Refusal.{number_of, numbered, first, asked}
use Rattle.call.proofs.refusal.first_refusal.Goals as goal

-- the condition in a place, and those behind it
front : (cs : List (Refusal × Bool)) (k : ℕ) → k < length cs
    → first (map numbered (drop k cs)) ≡ asked (number_of (get_or cs k (Broken, false)).0) (get_or cs k (Broken, false)).1 (first (map numbered (drop (k + 1) cs)))
unfolding first
front cs k inside = rw (add-one, drop-cons cs k (Broken, false) inside)

pub returns-then-holds : goal.returns-then-holds
returns-then-holds c = sym (c.loop-why.invariant ∙ front _ _ c.loop-why-test.true ∙ rw c.if-holds.true)

pub loop-why-preserved : goal.loop-why-preserved
loop-why-preserved c = c.loop-why.invariant ∙ front _ _ c.loop-why-test.true ∙ rw c.if-holds.false

pub returns : goal.returns
unfolding first
returns c = sym (rw (drop_all _ _ c.loop-why-test.false) at c.loop-why.invariant)
