-- The early refusals and 18 are the list's; past them the bank's cards are known, and close pays by them.
use mathlib.Core.Path.{◌≡◌, refl, ◌∙◌, ap}
use native.Mathlib.Omega.{arith}
use Rattle.cards.specs.Hand.{cards_of}
use Rattle.call.specs.Refusal.{number_of}
use Rattle.call.proofs.Refusals.{residual, refusal_some}
use Rattle.table.proofs.Facts.{unbroken, decks_416}
use Rattle.answer.proofs.reply.Laws.{refused-step, accepted-step}
use Rattle.close_spec.specs.BankDraw.{bank_at_close}
use Rattle.close_spec.specs.Close.{close_conditions, close_effect, close_shown}
use Rattle.close.specs.Settled.{closed_reply}
use Rattle.close.proofs.Numbers.{early_refused, last_refused, all_accepted, closes}
use Rattle.close.proofs.close.Goals.{After-must_draw}
use Rattle.close.proofs.close.Goals as goal

-- the bank's cards are those of the table
cards : (c : After-must_draw) → cards_of c.bank_at_close-bank.result ≡ bank_at_close c.args.t.now
cards c = c.bank_at_close-bank.ensures ∙ ap bank_at_close c.table.ensures.same

pub returns-in_err-check_early : goal.returns-in_err-check_early
returns-in_err-check_early c =
    let t = c.args.t.now in
    let why = c.in_err-check_early.field-0.0 in
    refused-step c.args.names.now c.args.nets.now (close_conditions t) (close_effect t) t (close_shown t) (number_of why) _ (ap (closed_reply t) (residual _ c.from_residual.ensures.1))
    (early_refused t (number_of why) c.in_err-check_early.ensures (refusal_some why)) (refusal_some why)

pub bank_at_close-bank-requires : goal.bank_at_close-bank-requires
bank_at_close-bank-requires c =
    let sound = unbroken c.args.t.now c.table.ensures.whole in
    rw c.table.ensures.same (sound.drawn, decks_416 c.args.t.now sound)

pub returns-then-must_draw : goal.returns-then-must_draw
returns-then-must_draw c =
    let t = c.args.t.now in
    refused-step c.args.names.now c.args.nets.now (close_conditions t) (close_effect t) t (close_shown t) 18 _ refl
    (last_refused t 0 c.in_ok-check_early.ensures refl _ (cards (goal.at.returns-then-must_draw c).After-must_draw) _ c.must_draw.ensures c.if-must_draw.true)
    (λ none. absurd (omega arith))

pub new-requires : goal.new-requires
new-requires c =
    closes c.args.t.now 0 c.in_ok-check_early.ensures refl _ (cards (goal.at.new-requires c).After-must_draw) _ c.must_draw.ensures c.if-must_draw.false

pub returns : goal.returns
returns c =
    let t = c.args.t.now in
    accepted-step c.args.names.now c.args.nets.now (close_conditions t) (close_effect t) t (close_shown t) _ (rw c.new.ensures at c.settle.ensures)
    (all_accepted t 0 c.in_ok-check_early.ensures refl _ (cards (goal.at.returns c).After-must_draw) _ c.must_draw.ensures c.if-must_draw.false)
