-- `count_seat` goes hand by hand: before each turn the cards of the hands before it are counted.
use Prim.Native.Nat.{◌*◌}
use lib.ListN.{take}
use Rattle.lists.specs.Flat.{flat}
use Rattle.cards.specs.Hand.{cards_of}
use Rattle.card_count.specs.Aids.Counted.{Counted}
use Rattle.card_count.proofs.out_cards.count_seat.Given as goal

abbrev pub invariant-loop-h : goal.invariant-loop-h
invariant-loop-h l = Counted l.initial.of l.of (flat (λ h. cards_of h.hand) (take l.h-index (take l.fn.s.many l.fn.s.places))) l.many (20 * l.h-index)
