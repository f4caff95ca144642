-- The bank's cards, the lines and the table are the definition's, all by the score of those cards.
use mathlib.Core.Path.{◌∙◌, ap, ap₂}
use Rattle.cards.specs.declared.hand.Hand.{Hand}
use Rattle.table.specs.declared.Table.{Table}
use Rattle.answer.specs.Scores.{with_score}
use Rattle.close.proofs.Effect.{settled_is}
use Rattle.close.proofs.closing.Closing.settle.Goals as goal

pub returns : goal.returns
returns c =
    let t = c.self.inside.table.now in
    let seen = ap (λ (v : Table × Hand). v.0) c.self.view_is in
    rw (← seen)
    (settled_is t c.self.inside.bank c.self.inside.payment c.closed.result c.with_score.result
    c.self.invariant.0.cards c.self.invariant.1 (rw c.table.ensures.same at c.all_lines-lines.ensures) (rw (← seen) at c.closed.ensures)
    (c.with_score.ensures ∙ ap₂ with_score c.no_scores.ensures c.hand_score.ensures))
