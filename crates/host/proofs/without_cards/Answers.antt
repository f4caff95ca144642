-- Every place is the empty one.
use mathlib.Core.Path.{ap}
use lib.ListN.{replicate}
use Rattle.host_spec.specs.declared.GuestCard.{GuestCard}
use Rattle.host_spec.specs.Cards.{hosted}
use Rattle.host.proofs.without_cards.Goals as goal

pub returns : goal.returns
returns c = ap (λ (g : GuestCard). hosted c.args.table (replicate 27 g)) c.no_card.ensures
