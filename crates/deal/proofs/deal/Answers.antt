-- Why it is refused, or the effect.
use mathlib.Core.Path.{sym, ◌∙◌, ap}
use Rattle.answer.proofs.outcome.Laws.{refused-whole, accepted}
use Rattle.deal_spec.specs.Deal.{deal_effect}
use Rattle.deal.proofs.deal.Goals as goal

pub returns-in_err-check_deal : goal.returns-in_err-check_deal
returns-in_err-check_deal c = refused-whole _ _ _ _ _ c.from_residual.ensures.1 c.in_err-check_deal.ensures

pub dealt-requires : goal.dealt-requires
dealt-requires c = rw c.table.ensures.same (sym c.in_ok-check_deal.ensures)

pub returns : goal.returns
returns c = accepted _ _ _ c.in_ok-check_deal.ensures (c.dealt.ensures ∙ ap deal_effect c.table.ensures.same)
