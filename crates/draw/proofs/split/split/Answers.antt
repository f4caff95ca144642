-- Why it is refused, or the effect, for which the accepted call gives what it asks.
use mathlib.Core.Path.{sym}
use Rattle.answer.proofs.outcome.Laws.{refused-seat, accepted}
use Rattle.decisions_spec.proofs.Split.{SplitAccepted, split-accepted}
use Rattle.draw.proofs.split.Accepted.{splits}
use Rattle.draw.proofs.split.split.Goals.{In_ok-turn}
use Rattle.draw.proofs.split.split.Goals as goal

-- what an accepted call has
has : (c : In_ok-turn) → SplitAccepted c.args.t.now c.args.at.seat
has c = split-accepted c.args.t.now c.args.at.seat c.args.at.position (sym c.in_ok-turn.ensures.number)

pub returns-in_err-turn-clause-same : goal.returns-in_err-turn-clause-same
returns-in_err-turn-clause-same c = refused-seat _ _ _ _ _ _ c.from_residual.ensures.1 c.in_err-turn.ensures.number

pub split_moved-requires : goal.split_moved-requires
split_moved-requires c =
    let (is, turn) = c.in_ok-turn.ensures.hand in
    rw c.table.ensures.same (splits _ _ _ is turn (has (goal.at.split_moved-requires c).In_ok-turn))

pub returns-clause-same : goal.returns-clause-same
returns-clause-same c = accepted _ _ _ c.in_ok-turn.ensures.number (simp (c.table.ensures.same, c.in_ok-turn.ensures.hand.0) at c.split_moved.ensures.table)

pub returns-clause-told : goal.returns-clause-told
returns-clause-told c = ((has (goal.at.returns-clause-told c).In_ok-turn).turn.acting.nine, simp (c.table.ensures.same, c.in_ok-turn.ensures.hand.0) at c.split_moved.ensures.hand)
