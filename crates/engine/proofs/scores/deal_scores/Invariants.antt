-- Seat by seat: before each turn the scores are those of the staked seats before it, and so at most as many.
use mathlib.Core.Path.{◌≡◌}
use Prim.Native.Nat.{◌≤◌}
use lib.ListN.{length}
use Rattle.answer.proofs.scores.Laws.{scores_at}
use Rattle.engine.proofs.scores.Laws.{staked_to, scores_to}
use Rattle.engine.proofs.scores.deal_scores.Given as goal

abbrev pub invariant-loop-s : goal.invariant-loop-s
invariant-loop-s l = (l.all ≡ scores_at (scores_to l.fn.after.seats l.s-index)) × (length (staked_to l.fn.after.seats l.s-index) ≤ l.s-index)
