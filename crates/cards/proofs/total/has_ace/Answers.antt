-- `has_ace` asks the cards one by one, as `any_of` does.
use Rattle.std.proofs.Common.{rules, tests}
use Rattle.std.proofs.lemmas.Iterator.{YieldsList-from_slice}
use Rattle.std.proofs.lemmas.Iterator.Search.{any_from_yields_List}
use Rattle.lists.proofs.Chains.{any_of-list_any}
use Rattle.cards.specs.Card.{is_ace}
use Rattle.cards.specs.Hand.{cards_of}
use Rattle.cards.proofs.total.has_ace.Goals as goal

pub returns : goal.returns
returns c =
    rw any_of-list_any (any_from_yields_List is_ace _ _ _ c.any.ensures.ran (YieldsList-from_slice (cards_of c.args.h) cc) (λ x b q k. search (rules, tests)))
