-- The conditions in turn are asked first; behind them stands the hand, and the rules are asked of it, then the purses and the shoe.
use Rattle.call.specs.Refusal.{first}
use Rattle.decisions_spec.specs.Double.{double_conditions}
use Rattle.decisions.proofs.turn.Laws.{refused_turn, behind_turn}
use Rattle.draw.proofs.double.check_double.Goals as goal

pub returns-in_err-turn : goal.returns-in_err-turn
unfolding double_conditions
returns-in_err-turn c = refused_turn _ _ _ c.from_residual.ensures.1 c.in_err-turn.ensures.number _

pub returns : goal.returns
unfolding double_conditions first
returns c =
    let turn = c.in_ok-turn.ensures.hand in
    rw c.and.ensures (behind_turn _ _ _ c.in_ok-turn.ensures.number turn _ _ (simp (
      c.first_refusal.ensures,
      c.cards_left.ensures,
      c.purse_short.ensures,
      c.guest_seat.ensures,
      c.permits_double-permitted.ensures,
      c.table-t.ensures.same,
      turn.1.up_is,
      turn.1.many_is,
      turn.1.hand_is,
      turn.0,
    )))
