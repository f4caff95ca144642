-- stand asks the conditions in turn and no more; behind them stands the hand, which ends.
use Rattle.answer.proofs.outcome.Laws.{refused-seat, accepted}
use Rattle.decisions.proofs.stand.stand.Goals as goal

pub returns-in_err-turn : goal.returns-in_err-turn
returns-in_err-turn c = refused-seat _ _ _ _ _ _ c.from_residual.ensures.1 c.in_err-turn.ensures.number

pub ended-requires : goal.ended-requires
ended-requires c = rw c.table.ensures.same c.in_ok-turn.ensures.hand.1

pub returns : goal.returns
returns c = accepted _ _ _ c.in_ok-turn.ensures.number (simp (c.table.ensures.same, c.in_ok-turn.ensures.hand.0) at c.ended.ensures)
