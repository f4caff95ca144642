-- `all_sevens` asks card by card.
use Rattle.std.proofs.Common.{rules, tests}
use Rattle.std.proofs.lemmas.Iterator.{YieldsList-from_slice}
use Rattle.std.proofs.lemmas.Iterator.Search.{all_from_yields_List}
use Rattle.lists.proofs.Chains.{all_of-list_all}
use Rattle.cards.specs.PrizeHand.{has_rank, all_sevens}
use Rattle.cards.proofs.prize_hand.all_sevens.Goals as goal

pub returns : goal.returns
unfolding all_sevens
returns c = rw all_of-list_all (all_from_yields_List (has_rank 6) _ _ _ c.all.ensures.ran (YieldsList-from_slice c.args.cards.now cc) (λ x b q k. search (rules, tests)))
