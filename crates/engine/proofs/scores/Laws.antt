-- The scores of the staked seats, one seat more at a time.
use mathlib.Core.Path.{◌≡◌, ◌∙◌}
use mathlib.Core.Bool.{true, false}
use mathlib.Core.List.{List, [], ◌∷◌, ◌++◌, map, append-nil, map-append}
use Prim.Native.Nat.{ℕ, ◌+◌, ◌≤◌, ◌<◌}
use native.Mathlib.Numerals.{add-one}
use native.Mathlib.Omega.{arith}
use lib.ListN.{length, take, get_or, length-map, length-append}
use lib.Seq.{take-suc}
use Rattle.lists.specs.Tests.{those}
use Rattle.lists.proofs.Numbered.{those-append}
use Rattle.cards.specs.declared.score.HandScore.{HandScore}
use Rattle.table.specs.declared.Seat.{Seat}
use Rattle.table.specs.Seat.{missing_seat, is_staked}
use Rattle.answer.specs.declared.scores.Scores.{Scores}
use Rattle.answer.specs.Scores.{with_score}
use Rattle.answer.proofs.scores.Laws.{scores_at, score_more}
use Rattle.engine.specs.Scores.{place_score}

-- the staked ones among the first i seats, and the scores of their first hands
abbrev pub staked_to : List Seat → ℕ → List Seat
staked_to ss i = those is_staked (take i ss)

abbrev pub scores_to : List Seat → ℕ → List HandScore
scores_to ss i = map (λ s. place_score s 0) (staked_to ss i)

staked-next : (ss : List Seat) (i : ℕ) → i < length ss → staked_to ss (i + 1) ≡ staked_to ss i ++ those is_staked (get_or ss i missing_seat ∷ [])
staked-next ss i h = rw (add-one, take-suc ss i missing_seat h) (those-append is_staked (take i ss) (get_or ss i missing_seat ∷ []))

staked_more : (ss : List Seat) (i : ℕ) → i < length ss → is_staked (get_or ss i missing_seat) ≡ true → staked_to ss (i + 1) ≡ staked_to ss i ++ (get_or ss i missing_seat ∷ [])
unfolding those
staked_more ss i h e = staked-next ss i h ∙ rw e

staked-same : (ss : List Seat) (i : ℕ) → i < length ss → is_staked (get_or ss i missing_seat) ≡ false → staked_to ss (i + 1) ≡ staked_to ss i
unfolding those
staked-same ss i h e = staked-next ss i h ∙ rw e (append-nil (staked_to ss i))

module _ (ss : List Seat) (i : ℕ) (inside : i < length ss) (all : Scores) (so_far : all ≡ scores_at (scores_to ss i)) (few : length (staked_to ss i) ≤ i) where
  -- a staked seat: its score stands behind the others
  pub score-next : i < 9 → is_staked (get_or ss i missing_seat) ≡ true → (next : Scores) (x : HandScore) → next ≡ with_score all x → x ≡ place_score (get_or ss i missing_seat) 0
      → (next ≡ scores_at (scores_to ss (i + 1))) × (length (staked_to ss (i + 1)) ≤ i + 1)
  score-next nine staked next x made same =
      let s = get_or ss i missing_seat in
      let more = staked_more ss i inside staked in
      let behind : scores_to ss i ++ (place_score s 0 ∷ []) ≡ scores_to ss (i + 1) = rw (more, map-append (λ s. place_score s 0) (staked_to ss i) (s ∷ [])) in
      let room : length (scores_to ss i) < 9 = rw length-map (omega arith) in (
        made ∙ rw (so_far, same) (score_more (scores_to ss i) (scores_to ss (i + 1)) (place_score s 0) room behind),
        rw (more, length-append) (omega arith),
      )

  -- a seat without stake: nothing changes
  pub score-same : is_staked (get_or ss i missing_seat) ≡ false → (next : Scores) → next ≡ all → (next ≡ scores_at (scores_to ss (i + 1))) × (length (staked_to ss (i + 1)) ≤ i + 1)
  score-same none next kept = let same = staked-same ss i inside none in (kept ∙ so_far ∙ rw same, rw same (omega arith))
