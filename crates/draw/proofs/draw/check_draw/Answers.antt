-- The conditions in turn are asked first; behind them stands the hand, and the rules are asked of it, then the shoe.
use Rattle.call.specs.Refusal.{first}
use Rattle.decisions_spec.specs.Draw.{draw_conditions}
use Rattle.decisions.proofs.turn.Laws.{refused_turn, behind_turn}
use Rattle.draw.proofs.draw.check_draw.Goals as goal

pub returns-in_err-turn : goal.returns-in_err-turn
unfolding draw_conditions
returns-in_err-turn c = refused_turn _ _ _ c.from_residual.ensures.1 c.in_err-turn.ensures.number _

pub returns : goal.returns
unfolding draw_conditions first
returns c =
    let turn = c.in_ok-turn.ensures.hand in
    rw c.and.ensures (behind_turn _ _ _ c.in_ok-turn.ensures.number turn _ _ (simp (
      c.first_refusal.ensures,
      c.cards_left.ensures,
      c.permits_draw-permitted.ensures,
      c.table-t.ensures.same,
      turn.1.up_is,
      turn.1.many_is,
      turn.1.hand_is,
      turn.0,
    )))
