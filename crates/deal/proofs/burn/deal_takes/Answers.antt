-- The sum is the definition's; with a burn of a byte and nine seats it is small.
use Rattle.deal_spec.specs.Deal.{deal_takes}
use Rattle.deal.proofs.burn.deal_takes.Goals as goal

pub returns : goal.returns
unfolding deal_takes
returns c = rw (c.burn_at_deal.ensures.same, c.staked_seats.ensures.same, c.bank_at_deal.ensures)
