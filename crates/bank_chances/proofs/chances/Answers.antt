-- A refused question gives its number and zeros.
use mathlib.Core.Path.{sym, ◌∙◌, ap}
use Prim.Native.Nat.{ℕ}
use borrow.Author.Tests.{ne_eqb}
use lib.ListN.{replicate}
use Rattle.call.proofs.Refusals.{refusal_some}
use Rattle.bank_chances.specs.Chances.{chances_number, make_chances, chances_of}
use Rattle.bank_chances.proofs.chances.Goals as goal

pub counted-requires : goal.counted-requires
counted-requires c = sym c.in-Ok.ensures

pub returns-in-Ok : goal.returns-in-Ok
returns-in-Ok c = c.counted.ensures

pub returns-in-Err : goal.returns-in-Err
unfolding chances_of
returns-in-Err c =
    simp (ne_eqb (chances_number c.args.up c.args.left c.args.depth) 0 (λ none. refusal_some c.in-Err.why (c.in-Err.ensures ∙ none)))
    (c.refused.ensures ∙ ap (λ (number : ℕ). make_chances number 0 (replicate 8 0)) c.in-Err.ensures)
