-- Scores put one behind the other are the list of them, as long as there are at most nine.
use mathlib.Core.Path.{◌≡◌, refl}
use mathlib.Core.List.{List, [], ◌∷◌, ◌++◌}
use Prim.Native.Nat.{◌+◌, ◌≤◌, ◌<◌}
use native.Mathlib.Omega.{arith}
use borrow.Author.Tests.{lt-ltb}
use lib.ListN.{length, replicate, length-replicate}
use lib.Seq.{sets}
use Rattle.lists.proofs.Stores.{stores_more, sets_taken}
use Rattle.cards.specs.declared.score.HandScore.{HandScore}
use Rattle.cards.specs.Score.{no_score}
use Rattle.answer.specs.declared.scores.Scores.{Scores}
use Rattle.answer.specs.Scores.{make_scores, scores_of, no_scores, with_score}

pub one-score : (x : HandScore) → scores_of (with_score no_scores x) ≡ x ∷ []
unfolding with_score
one-score x = refl

pub two_scores : (x y : HandScore) → scores_of (with_score (with_score no_scores x) y) ≡ x ∷ y ∷ []
unfolding with_score
two_scores x y = refl

-- these scores, put into an array from its front
abbrev pub scores_at : List HandScore → Scores
scores_at xs = make_scores (sets (replicate 9 no_score) 0 xs) (0 + length xs)

pub scores_are : (xs : List HandScore) → length xs ≤ 9 → scores_of (scores_at xs) ≡ xs
scores_are xs few = sets_taken (replicate 9 no_score) 0 xs (omega (arith, length-replicate 9 no_score))

pub score_more : (xs all : List HandScore) (x : HandScore) → length xs < 9 → xs ++ (x ∷ []) ≡ all → with_score (scores_at xs) x ≡ scores_at all
unfolding with_score
score_more xs all x room e = simp (lt-ltb (0 + length xs) 9 (omega arith)) (stores_more make_scores (replicate 9 no_score) 0 xs (x ∷ []) all e)
