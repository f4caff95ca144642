-- Why it is refused, or the effect, for which the accepted call gives what it asks.
use mathlib.Core.Path.{sym}
use native.Mathlib.Omega.{arith}
use Rattle.answer.proofs.outcome.Laws.{refused-seat, accepted}
use Rattle.decisions_spec.proofs.Double.{DoubleAccepted, double-accepted}
use Rattle.draw.proofs.card.Laws.{drawable}
use Rattle.draw.proofs.double.double.Goals.{In_ok-turn}
use Rattle.draw.proofs.double.double.Goals as goal

-- what an accepted call has
has : (c : In_ok-turn) → DoubleAccepted c.args.t.now c.args.at.seat
has c = double-accepted c.args.t.now c.args.at.seat c.args.at.position (sym c.in_ok-turn.ensures.number)

pub returns-in_err-turn-clause-same : goal.returns-in_err-turn-clause-same
returns-in_err-turn-clause-same c = refused-seat _ _ _ _ _ _ c.from_residual.ensures.1 c.in_err-turn.ensures.number

pub with_next_card-requires : goal.with_next_card-requires
with_next_card-requires c =
    let a = has (goal.at.with_next_card-requires c).In_ok-turn in
    let (is, turn) = c.in_ok-turn.ensures.hand in
    rw c.table.ensures.same (drawable _ _ _ _ is turn c.table.ensures.nine a.turn (omega arith) (λ p h. omega (arith, a.enough p h)) a.left)

pub returns-clause-same : goal.returns-clause-same
returns-clause-same c = accepted _ _ _ c.in_ok-turn.ensures.number (simp (c.table.ensures.same, c.in_ok-turn.ensures.hand.0) at c.with_next_card.ensures.table)

pub returns-clause-told : goal.returns-clause-told
returns-clause-told c = ((has (goal.at.returns-clause-told c).In_ok-turn).turn.acting.nine, simp (c.table.ensures.same, c.in_ok-turn.ensures.hand.0) at c.with_next_card.ensures.hand)
