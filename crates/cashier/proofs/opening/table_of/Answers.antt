-- The seat and the bank's hand are the empty ones, and the rest stands as it was given.
use mathlib.Core.Path.{ap₂}
use lib.ListN.{replicate}
use Rattle.cards.specs.declared.hand.Hand.{Hand}
use Rattle.table.specs.declared.Seat.{Seat}
use Rattle.table.specs.Table.{make_table}
use Rattle.cashier.proofs.opening.table_of.Goals as goal

pub returns : goal.returns
returns c =
    let given = c.args in
    ap₂ (λ (s : Seat) (bank : Hand). make_table given.o 0 (replicate 9 s) bank given.shoe) c.empty_seat-seat.ensures c.empty_hand.ensures
