-- The two scores are those of the hand and of the place behind it, in the seat that the call leaves.
use mathlib.Core.Path.{sym, ◌∙◌, ap}
use Rattle.answer.proofs.scores.Laws.{two_scores}
use Rattle.answer.specs.Scores.{scores_of}
use Rattle.engine.specs.Aids.MovedScores.{shown_by, moved_split}
use Rattle.engine.proofs.scores.split_scores.Goals as goal

pub returns-in-Ok : goal.returns-in-Ok
returns-in-Ok c =
    (rw (c.with_score-in-Ok.ensures, c.with_score.ensures, c.no_scores.ensures, c.score_behind-new.ensures, c.seat_score-parent.ensures) (two_scores _ _)) ∙ ap (shown_by moved_split) (sym c.in-Ok.is)

pub returns-in-Err : goal.returns-in-Err
returns-in-Err c = ap scores_of c.no_scores-in-Err.ensures ∙ ap (shown_by moved_split) (sym c.in-Err.is)
