-- A call's reply with scores that are read off the table that it leaves: none where it is refused.
use mathlib.Core.Path.{◌≡◌, sym, ◌∙◌, ap}
use mathlib.Core.Bool.{cond}
use mathlib.Core.List.{List, []}
use lib.Dec.{eqb}
use borrow.Author.Tests.{ne_eqb}
use Rattle.std.specs.Prelude.{Result, Ok, Err}
use Rattle.call.specs.declared.refusal.Refusal.{Refusal}
use Rattle.call.specs.Refusal.{Condition, first}
use Rattle.table.specs.declared.Table.{Table}
use Rattle.answer.specs.declared.outcome.Outcome.{Outcome}
use Rattle.answer.specs.declared.reply.Reply.{Reply}
use Rattle.answer.specs.declared.scores.Scores.{Scores}
use Rattle.answer.specs.Outcome.{outcome, outcome_in}
use Rattle.answer.proofs.outcome.Laws.{refused, accepted}
use Rattle.answer.specs.Reply.{scored_reply, plain_reply}
use Rattle.answer.specs.Scores.{scores_of}
use Rattle.engine.specs.Scores.{deal_scores}

-- the outcome of a call is the same on any table that a refusal leaves
pub elsewhere : (conditions : List Condition) (effect t u : Table) (r : Result Table Refusal) → outcome_in t r ≡ outcome conditions effect t → outcome_in u r ≡ outcome conditions effect u
unfolding outcome
elsewhere conditions effect t u (Ok next) called =
    let zero = ap (λ (x : Outcome). x.number) called in
    accepted conditions effect u zero (ap (λ (x : Outcome). x.table) called ∙ rw (← zero))
elsewhere conditions effect t u (Err why) called = refused conditions effect u why (ap (λ (x : Outcome). x.number) called)

module _ (conditions : List Condition) (effect t : Table) {o : Outcome} (called : o ≡ outcome conditions effect t) where
  number : o.number ≡ first conditions
  unfolding outcome
  number = ap (λ (x : Outcome). x.number) called

  -- the reply of its outcome, whatever scores it shows
  replied : {scores : Scores} {r : Reply} → r ≡ scored_reply o scores → r ≡ scored_reply (outcome conditions effect t) r.answer.scores
  replied {scores} {r} made =
      made ∙ ap (λ (x : Outcome). scored_reply x scores) called ∙ ap (scored_reply (outcome conditions effect t)) (sym (ap (λ (x : Reply). x.answer.scores) made))

  pub dealt-none : {r : Reply} → (o.number ≡ 0 → ⊥) → r ≡ plain_reply o
      → (scores_of r.answer.scores ≡ cond (eqb (first conditions) 0) (deal_scores effect) []) × (r ≡ scored_reply (outcome conditions effect t) r.answer.scores)
  dealt-none some made =
      let none : [] ≡ cond (eqb (first conditions) 0) (deal_scores effect) [] = rw (← number, ne_eqb o.number 0 some) in
      (ap (λ (x : Reply). scores_of x.answer.scores) made ∙ none, replied made)

  pub dealt_some : {scores : Scores} {r : Reply} → o.number ≡ 0 → r ≡ scored_reply o scores → scores_of scores ≡ deal_scores o.table
      → (scores_of r.answer.scores ≡ cond (eqb (first conditions) 0) (deal_scores effect) []) × (r ≡ scored_reply (outcome conditions effect t) r.answer.scores)
  unfolding outcome
  dealt_some accepted made told =
      let zero : first conditions ≡ 0 = sym number ∙ accepted in
      let same : o.table ≡ effect = ap (λ (x : Outcome). x.table) called ∙ rw zero in
      let shown : deal_scores effect ≡ cond (eqb (first conditions) 0) (deal_scores effect) [] = rw zero in
      (ap (λ (x : Reply). scores_of x.answer.scores) made ∙ told ∙ ap deal_scores same ∙ shown, replied made)
