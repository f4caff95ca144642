-- A row of no hand.
use mathlib.Core.Path.{ap}
use Rattle.cards.specs.declared.hand.Hand.{Hand}
use Rattle.dealer_screen.proofs.rows.no_row.Goals as goal

pub returns : goal.returns
returns c = ap (λ (h : Hand). record { seat = 0; place = 0; hand = h; total = 0 }) c.empty_hand.ensures
