-- Each arm is its call.
use mathlib.Core.Path.{◌≡◌, refl, sym, ◌∙◌, ap}
use mathlib.Core.Bool.{Bool, true, false, cond}
use mathlib.Core.List.{List, []}
use Prim.Native.Nat.{ℕ, ◌+◌}
use native.Mathlib.Omega.{arith}
use lib.Dec.{eqb}
use lib.IntN.{ℤ}
use borrow.Author.Tests.{ne_eqb}
use Rattle.call.specs.declared.At.{At}
use Rattle.call.specs.declared.Call.{Call}
use Rattle.call.specs.declared.Call.TheVariants.{Side}
use Rattle.call.specs.Refusal.{Condition, first}
use Rattle.call.specs.Answer.{scored}
use Rattle.cards.specs.declared.score.HandScore.{HandScore}
use Rattle.table.specs.declared.Table.{Table}
use Rattle.answer.specs.declared.outcome.Outcome.{Outcome}
use Rattle.answer.specs.declared.reply.Reply.{Reply}
use Rattle.answer.specs.Outcome.{outcome}
use Rattle.answer.specs.Reply.{ReplyView, reply_by, Given, given_by, given_of, scored_reply, plain_reply}
use Rattle.answer.specs.Scores.{no_scores, scores_of}
use Rattle.answer.proofs.reply.Laws.{plain}
use Rattle.cashier_spec.specs.Side.{side_conditions, side_effect}
use Rattle.deal_spec.specs.Deal.{deal_conditions, deal_effect}
use Rattle.close_spec.specs.Close.{close_shown}
use Rattle.engine.specs.Scores.{deal_scores}
use Rattle.engine.specs.Step.{step}
use Rattle.engine.proofs.Moved.{card_shown_lem, split-shown}
use Rattle.engine.proofs.played.Goals as goal

-- the same scores, shown or not
alike : (b : Bool) (ss : List HandScore) → ss ≡ cond b ss ss
alike true ss = refl
alike false ss = refl

-- a side stake's kind is never that of close
side-step : (t : Table) (at : At) (k n : ℕ) (order : List ℕ)
    → reply_by (side_conditions t at.seat at.position k n) (scored []) (side_effect t at.seat at.position k n) t ≡ step t (Side at k n) order
unfolding step
side-step t at k n order =
    ap (λ (b : Bool). reply_by (side_conditions t at.seat at.position k n) (cond b (close_shown t) (scored [])) (side_effect t at.seat at.position k n) t)
    (sym (ne_eqb (17 + k) 15 (λ same. omega arith)))

module _ (t : Table) (order names : List ℕ) (nets : List ℤ) {c d : Call} (is : c ≡ d) where
  -- what is given by a call that is known
  given : {g : Given} → g ≡ given_by (step t d order) names nets → g ≡ given_by (step t c order) names nets
  given called = called ∙ ap (λ (x : Call). given_by (step t x order) names nets) (sym is)

  -- a call that shows scores
  shown-arm : (conditions : List Condition) (effect : Table) (ss : List HandScore) (o : Outcome) (r : Reply) → r ≡ scored_reply o r.answer.scores → o ≡ outcome conditions effect t
      → scores_of r.answer.scores ≡ cond (eqb (first conditions) 0) ss []
      → reply_by conditions (scored ss) effect t ≡ step t d order → given_of r names nets ≡ given_by (step t c order) names nets
  shown-arm conditions effect ss o r made called told same =
      given
      (plain names nets conditions effect t ss r.answer.scores r told (made ∙ ap (λ (x : Outcome). scored_reply x r.answer.scores) called)
      ∙ ap (λ (x : ReplyView). given_by x names nets) same)

  -- a call that shows nothing
  plain-arm : (conditions : List Condition) (effect : Table) {o : Outcome} {r : Reply} → r ≡ plain_reply o → o ≡ outcome conditions effect t
      → reply_by conditions (scored []) effect t ≡ step t d order → given_of r names nets ≡ given_by (step t c order) names nets
  plain-arm conditions effect {r = r} shown called same =
      given
      (plain names nets conditions effect t [] no_scores r (alike (eqb (first conditions) 0) []) (shown ∙ ap plain_reply called)
      ∙ ap (λ (x : ReplyView). given_by x names nets) same)

pub returns-in-Fill : goal.returns-in-Fill
unfolding step
returns-in-Fill c = plain-arm _ _ _ _ c.in-Fill.is _ _ (rw c.requires at c.filled.ensures) refl refl

pub returns-in-Credit : goal.returns-in-Credit
unfolding step
returns-in-Credit c = plain-arm _ _ _ _ c.in-Credit.is _ _ (rw c.requires at c.credited.ensures) refl refl

pub returns-in-Buy : goal.returns-in-Buy
unfolding step
returns-in-Buy c = plain-arm _ _ _ _ c.in-Buy.is _ _ (rw c.requires at c.moved.ensures) c.buy.ensures refl

pub returns-in-Cash : goal.returns-in-Cash
unfolding step
returns-in-Cash c = plain-arm _ _ _ _ c.in-Cash.is _ _ (rw c.requires at c.moved-in-Cash.ensures) c.cash.ensures refl

pub returns-in-Stake : goal.returns-in-Stake
unfolding step
returns-in-Stake c = plain-arm _ _ _ _ c.in-Stake.is _ _ (rw c.requires at c.moved-in-Stake.ensures) c.stake.ensures refl

pub returns-in-Insure : goal.returns-in-Insure
unfolding step
returns-in-Insure c = plain-arm _ _ _ _ c.in-Insure.is _ _ (rw c.requires at c.moved-in-Insure.ensures) c.insure.ensures refl

pub returns-in-Stand : goal.returns-in-Stand
unfolding step
returns-in-Stand c = plain-arm _ _ _ _ c.in-Stand.is _ _ (rw c.requires at c.moved-in-Stand.ensures) c.stand.ensures refl

pub returns-in-Surrender : goal.returns-in-Surrender
unfolding step
returns-in-Surrender c = plain-arm _ _ _ _ c.in-Surrender.is _ _ (rw c.requires at c.moved-in-Surrender.ensures) c.surrender.ensures refl

pub returns-in-Even : goal.returns-in-Even
unfolding step
returns-in-Even c = plain-arm _ _ _ _ c.in-Even.is _ _ (rw c.requires at c.moved-in-Even.ensures) c.even.ensures refl

pub returns-in-Five : goal.returns-in-Five
unfolding step
returns-in-Five c = plain-arm _ _ _ _ c.in-Five.is _ _ (rw c.requires at c.moved-in-Five.ensures) c.five.ensures refl

pub returns-in-Void : goal.returns-in-Void
unfolding step
returns-in-Void c = plain-arm _ _ _ _ c.in-Void.is _ _ (rw c.requires at c.voided.ensures) refl refl

pub returns-in-Load : goal.returns-in-Load
unfolding step
returns-in-Load c = plain-arm _ _ _ _ c.in-Load.is _ _ (rw c.requires at c.loaded.ensures) refl refl

pub returns-in-Draw : goal.returns-in-Draw
unfolding step
returns-in-Draw c =
    let r = c.card_moved.ensures in
    shown-arm _ _ _ _ c.in-Draw.is _ _ _ _ _ (rw c.requires at r.made) c.draw.ensures.same
    (r.told ∙ card_shown_lem _ _ _ _ (rw c.requires at c.seats_shape.ensures) _ c.draw.ensures.same c.draw.ensures.told) refl

pub returns-in-Double : goal.returns-in-Double
unfolding step
returns-in-Double c =
    let r = c.card_moved-in-Double.ensures in
    shown-arm _ _ _ _ c.in-Double.is _ _ _ _ _ (rw c.requires at r.made) c.double.ensures.same
    (r.told ∙ card_shown_lem _ _ _ _ (rw c.requires at c.seats_shape.ensures) _ c.double.ensures.same c.double.ensures.told) refl

pub returns-in-Split : goal.returns-in-Split
unfolding step
returns-in-Split c =
    let r = c.split_moved.ensures in
    shown-arm _ _ _ _ c.in-Split.is _ _ _ _ _ (rw c.requires at r.made) c.split.ensures.same
    (r.told ∙ split-shown _ _ _ _ (rw c.requires at c.seats_shape.ensures) _ c.split.ensures.same c.split.ensures.told) refl

pub returns-in-Side : goal.returns-in-Side
returns-in-Side c = plain-arm _ _ _ _ c.in-Side.is _ _ (rw c.requires at c.moved-in-Side.ensures) c.side.ensures (side-step _ _ _ _ _)

pub returns-in-Deal : goal.returns-in-Deal
unfolding step
returns-in-Deal c =
    let t = c.args.t.now in
    given t c.args.order.now c.args.names.now c.args.nets.now c.in-Deal.is
    (plain c.args.names.now c.args.nets.now (deal_conditions t) (deal_effect t) t (deal_scores (deal_effect t)) c.dealt.result.scores _ c.dealt.ensures.scores (rw c.requires at c.dealt.ensures.made))

pub returns-in-Close : goal.returns-in-Close
unfolding step
returns-in-Close c = given c.args.t.now c.args.order.now c.args.names.now c.args.nets.now c.in-Close.is c.closed.ensures
