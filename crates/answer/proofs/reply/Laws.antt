-- A call that shows no more than scores, and a refused close, give the step that the definition says, and leave the lent arrays alone.
use mathlib.Core.Path.{◌≡◌, refl, ◌∙◌, ap}
use mathlib.Core.Bool.{Bool, true, false, cond}
use mathlib.Core.List.{List, []}
use Prim.Native.Nat.{ℕ}
use lib.Dec.{eqb}
use lib.IntN.{ℤ}
use borrow.Author.Tests.{ne_eqb}
use Rattle.call.specs.Refusal.{Condition, first}
use Rattle.call.specs.Answer.{Shown, scored, empty_shown}
use Rattle.cards.specs.declared.score.HandScore.{HandScore}
use Rattle.table.specs.declared.Table.{Table}
use Rattle.answer.specs.declared.reply.Reply.{Reply}
use Rattle.answer.specs.declared.scores.Scores.{Scores}
use Rattle.answer.specs.Scores.{scores_of}
use Rattle.answer.specs.Outcome.{make_outcome, outcome}
use Rattle.answer.specs.Reply.{make_reply_view, reply_by, Given, given_by, given_of, scored_reply, plain_reply}

scored_or_nothing : (b : Bool) (ss : List HandScore) → scored (cond b ss []) ≡ cond b (scored ss) empty_shown
scored_or_nothing true ss = refl
scored_or_nothing false ss = refl

module _ (names : List ℕ) (nets : List ℤ) (conditions : List Condition) (effect t : Table) where
  -- a call that shows scores and no more, none where it is refused
  pub plain : (ss : List HandScore) (scores : Scores) (r : Reply) → scores_of scores ≡ cond (eqb (first conditions) 0) ss [] → r ≡ scored_reply (outcome conditions effect t) scores
      → given_of r names nets ≡ given_by (reply_by conditions (scored ss) effect t) names nets
  unfolding reply_by outcome
  plain ss scores r same e =
      ap (λ (x : Reply). given_of x names nets) e
      ∙ ap (λ (xs : List HandScore). given_by (make_reply_view (first conditions) (scored xs) (cond (eqb (first conditions) 0) effect t)) names nets) same
      ∙ ap (λ (s : Shown). given_by (make_reply_view (first conditions) s (cond (eqb (first conditions) 0) effect t)) names nets) (scored_or_nothing (eqb (first conditions) 0) ss)

  module _ (shown : Shown) where
    -- a refused call shows nothing
    pub refused-step : (n : ℕ) (r : Reply) → r ≡ plain_reply (make_outcome n t) → n ≡ first conditions → (n ≡ 0 → ⊥) → given_of r names nets ≡ given_by (reply_by conditions shown effect t) names nets
    unfolding reply_by
    refused-step n r e same some = ap (λ (x : Reply). given_of x names nets) e ∙ rw (← same, ne_eqb n 0 some)

    -- an accepted one shows what it has to show
    pub accepted-step : (g : Given) → g ≡ given_by (make_reply_view 0 shown effect) names nets → first conditions ≡ 0 → g ≡ given_by (reply_by conditions shown effect t) names nets
    unfolding reply_by
    accepted-step g e none = e ∙ rw none
