-- The one score is that of the hand, in the seat that the call leaves.
use mathlib.Core.Path.{sym, ◌∙◌, ap}
use Rattle.answer.proofs.scores.Laws.{one-score}
use Rattle.answer.specs.Scores.{scores_of}
use Rattle.engine.specs.Aids.MovedScores.{shown_by, moved_card}
use Rattle.engine.proofs.scores.card_scores.Goals as goal

pub returns-in-Ok : goal.returns-in-Ok
returns-in-Ok c = (rw (c.with_score.ensures, c.no_scores.ensures, c.seat_score.ensures) (one-score _)) ∙ ap (shown_by moved_card) (sym c.in-Ok.is)

pub returns-in-Err : goal.returns-in-Err
returns-in-Err c = ap scores_of c.no_scores-in-Err.ensures ∙ ap (shown_by moved_card) (sym c.in-Err.is)
