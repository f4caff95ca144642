-- A table of no options whose shoe is made of an order of no card.
use mathlib.Core.Path.{◌∙◌, ap₂}
use lib.ListN.{replicate}
use Rattle.cards.specs.Hand.{empty_hand}
use Rattle.options.specs.declared.Options.{Options}
use Rattle.table.specs.declared.Shoe.{Shoe}
use Rattle.table.specs.Seat.{empty_seat}
use Rattle.table.specs.Table.{make_table}
use Rattle.cashier.proofs.opening.empty_table.Goals as goal

pub returns : goal.returns
returns c =
    c.table_of.ensures
    ∙ ap₂ (λ (o : Options) (shoe : Shoe). make_table o 0 (replicate 9 empty_seat) empty_hand shoe) c.no_options.ensures c.new_shoe.ensures
