-- `one_has_rank` asks card by card.
use Rattle.std.proofs.Common.{rules, tests}
use Rattle.std.proofs.lemmas.Iterator.{YieldsList-from_slice}
use Rattle.std.proofs.lemmas.Iterator.Search.{any_from_yields_List}
use Rattle.lists.proofs.Chains.{any_of-list_any}
use Rattle.cards.specs.PrizeHand.{has_rank}
use Rattle.cards.proofs.prize_hand.one_has_rank.Goals as goal

pub returns : goal.returns
returns c = rw any_of-list_any (any_from_yields_List (has_rank c.args.wanted) _ _ _ c.any.ensures.ran (YieldsList-from_slice c.args.cards.now cc) (λ x b q k. search (rules, tests)))
