-- `count_seat` goes hand by hand: before each turn the cards of the hands before it are counted.
use mathlib.Core.Path.{◌≡◌, sym, ap, ◌∙◌}
use Prim.Native.Nat.{◌≤◌}
use native.Mathlib.Omega.{arith}
use lib.ListN.{length, take, length-take}
use lib.Seq.{take_all}
use Rattle.lists.specs.Flat.{flat}
use Rattle.lists.proofs.Flats.{flat_map}
use Rattle.cards.specs.Hand.{cards_of}
use Rattle.rules.specs.SeatHand.{Played, played_of}
use Rattle.table.specs.Seat.{missing_place}
use Rattle.card_count.proofs.out_cards.Counting.{counted_none, counted_next, counted_is}
use borrow.Author.Rules.{rules}
use Rattle.card_count.proofs.out_cards.count_seat.Goals as goal

pub loop-h-init : goal.loop-h-init
loop-h-init c = counted_none (λ h. cards_of h.hand) (take c.args.s.many c.args.s.places) 20 _

pub loop-h-preserved : goal.loop-h-preserved
loop-h-preserved c =
    let s = c.args.s in
    let items = ap length c.in_use-h-items.ensures in
    counted_next (λ h. cards_of h.hand) (take s.many s.places) 20 c.loop-h.h-index missing_place (omega (arith, items)) c.loop-h.invariant (rw c.in_use-h-items.ensures at c.count_hand-many.ensures)

pub returns : goal.returns
returns c =
    let s = c.args.s in
    let full : length s.places ≡ 4 = search rules in
    let few : length (take s.many s.places) ≤ 4 = omega (arith, length-take s.many s.places) in
    let items = ap length c.in_use-h-items.ensures in
    counted_is c.loop-h.invariant
    (ap (flat (λ h. cards_of h.hand)) (take_all c.loop-h.h-index (take s.many s.places) (omega (arith, items)))
    ∙ sym (flat_map (λ (h : Played). h.cards) played_of (take s.many s.places))) (omega arith)
