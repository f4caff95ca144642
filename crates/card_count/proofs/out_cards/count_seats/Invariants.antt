-- `count_seats` goes seat by seat: before each turn the cards of the seats before it are counted.
use Prim.Native.Nat.{◌*◌}
use lib.ListN.{take}
use Rattle.lists.specs.Flat.{flat}
use Rattle.table.specs.Seat.{seat_cards}
use Rattle.card_count.specs.Aids.Counted.{Counted}
use Rattle.card_count.proofs.out_cards.count_seats.Given as goal

abbrev pub invariant-loop-s : goal.invariant-loop-s
invariant-loop-s l = Counted l.initial.of l.of (flat seat_cards (take l.s-index l.fn.t.seats)) l.many (80 * l.s-index)
