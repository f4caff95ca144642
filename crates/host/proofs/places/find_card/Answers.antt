-- The 27 places are asked in their order.
use Rattle.std.proofs.Common.{rules, tests}
use Rattle.std.proofs.lemmas.Iterator.{YieldsList-from_slice}
use Rattle.std.proofs.lemmas.Iterator.Search.{position_from_yields_List}
use Rattle.host_spec.specs.Cards.{holds}
use Rattle.host.proofs.places.find_card.Goals as goal

pub returns : goal.returns
returns c = position_from_yields_List (holds c.args.card) _ _ _ c.position.ensures.ran (YieldsList-from_slice c.args.cards cc) (λ x b q k. search (rules, tests))
