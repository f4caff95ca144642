-- It branches where the definition does.
use mathlib.Core.Path.{sym, ◌∙◌, ap₂}
use Rattle.cards.specs.Hand.{with_card}
use Rattle.display.specs.Table.{bank_shown}
use Rattle.display.proofs.shown_bank.Goals as goal

pub returns-then-is_dealt : goal.returns-then-is_dealt
unfolding bank_shown
returns-then-is_dealt c =
    simp (sym c.is_dealt.ensures ∙ c.if-is_dealt.true) (c.with_card.ensures ∙ ap₂ with_card c.empty_hand.ensures c.up.ensures)

pub returns : goal.returns
unfolding bank_shown
returns c = simp (sym c.is_dealt.ensures ∙ c.if-is_dealt.false) c.empty_hand-2.ensures
