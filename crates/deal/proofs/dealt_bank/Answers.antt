-- The box's bank has the hidden card behind the up card, as the definition has it.
use mathlib.Core.Path.{sym, ◌∙◌, ap}
use Rattle.cards.specs.declared.hand.Hand.{Hand}
use Rattle.cards.specs.Hand.{with_card}
use Rattle.deal_spec.specs.Deal.{dealt_bank}
use Rattle.deal.proofs.dealt_bank.Goals as goal

pub returns-then-is_box : goal.returns-then-is_box
unfolding dealt_bank
returns-then-is_box c =
    let first = c in
    simp (sym c.is_box.ensures ∙ c.if-is_box.true)
    (c.with_card.ensures ∙ ap (λ (h : Hand). with_card h first.args.hidden) (first.with_card-bank.ensures ∙ ap (λ (h : Hand). with_card h first.args.up) first.empty_hand.ensures))

pub returns : goal.returns
unfolding dealt_bank
returns c =
    let first = c in
    simp (sym c.is_box.ensures ∙ c.if-is_box.false)
    (first.with_card-bank.ensures ∙ ap (λ (h : Hand). with_card h first.args.up) first.empty_hand.ensures)
