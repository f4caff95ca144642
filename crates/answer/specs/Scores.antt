-- Request 2.1: the scores that a step shows. The struct of the code holds them with their number.
use Rattle.std.specs.Prelude.{cond, List, ℕ, ◌+◌, ltb, take, set, replicate}
use Rattle.cards.specs.declared.score.HandScore.{HandScore}
use Rattle.cards.specs.Score.{no_score}
use Rattle.answer.specs.declared.scores.Scores.{Scores}

abbrev pub make_scores : List HandScore → ℕ → Scores
make_scores each count = record { each = each; count = count }

-- The first `count` of the array.
abbrev pub scores_of : Scores → List HandScore
scores_of s = take s.count s.each

-- No score, and one more behind the others; nine stay as they are.
abbrev pub no_scores : Scores
no_scores = make_scores (replicate 9 no_score) 0

unfoldable pub with_score : Scores → HandScore → Scores
with_score s score = cond (ltb s.count 9) (make_scores (set s.each s.count score) (s.count + 1)) s
