-- The conditions in turn are asked first; behind them stands the hand, and the rules are asked of it.
use Rattle.call.specs.Refusal.{first}
use Rattle.decisions_spec.specs.Even.{even_conditions}
use Rattle.decisions.proofs.turn.Laws.{refused_turn, behind_turn}
use Rattle.decisions.proofs.even.check_even.Goals as goal

pub returns-in_err-turn : goal.returns-in_err-turn
unfolding even_conditions
returns-in_err-turn c = refused_turn _ _ _ c.from_residual.ensures.1 c.in_err-turn.ensures.number _

pub returns : goal.returns
unfolding even_conditions first
returns c =
    let turn = c.in_ok-turn.ensures.hand in
    rw c.and.ensures (behind_turn _ _ _ c.in_ok-turn.ensures.number turn _ _ (simp (
      c.first_refusal.ensures,
      c.permits_even-permitted.ensures,
      c.table.ensures.same,
      turn.1.up_is,
      turn.1.many_is,
      turn.1.hand_is,
      turn.0,
    )))
