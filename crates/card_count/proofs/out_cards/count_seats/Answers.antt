-- `count_seats` goes seat by seat: before each turn the cards of the first i seats are counted.
use mathlib.Core.Path.{◌≡◌, refl, sym, ◌∙◌}
use mathlib.Core.List.{List, map}
use Prim.Native.Nat.{ℕ, ◌<◌}
use native.Mathlib.Nat.{add-zero}
use native.Mathlib.Omega.{arith}
use lib.ListN.{length, get_or, take}
use Rattle.lists.specs.Flat.{flat}
use Rattle.rules.specs.declared.seat_hand.SeatHand.{SeatHand}
use Rattle.rules.specs.SeatHand.{played_of}
use Rattle.table.specs.Seat.{missing_seat, seat_cards}
use Rattle.card_count.specs.Aids.Counters.{counted_all}
use Rattle.card_count.specs.Aids.Counted.{Counted}
use Rattle.card_count.proofs.out_cards.Counting.{counted_none, counted_next, counted-at}
use borrow.Author.Rules.{rules}
use Rattle.card_count.proofs.out_cards.count_seats.Goals as goal
use Rattle.card_count.proofs.out_cards.count_seats.Goals.{then-s-ne0, else-s-ne0}

-- a seat without a hand has no card
no_hand : (of : List ℕ) (n : ℕ) (places : List SeatHand) → n ≡ 0 → Counted of of (flat (λ h. h.cards) (map played_of (take n places))) 0 80
unfolding counted_all flat
no_hand of n places none = rw none (record { counters = refl; number = refl; few = omega arith })

pub loop-s-init : goal.loop-s-init
loop-s-init c = counted_none seat_cards c.args.t.seats 80 _

pub loop-s-preserved : goal.loop-s-preserved
loop-s-preserved c =
    let t = c.args.t in
    let at = c.loop-s in
    let full : length t.seats ≡ 9 = search rules in
    let below : at.s-index < length t.seats = omega arith in
    let s = get_or t.seats at.s-index missing_seat in
    elim c.if-s-ne0.branch [
      | then-s-ne0 w ↦ counted-at w.of-is w.many-is (counted_next seat_cards t.seats 80 at.s-index missing_seat below at.invariant w.count_seat-many.ensures)
      | else-s-ne0 w ↦
          counted-at w.of-is (w.many-is ∙ sym (add-zero at.many))
          (counted_next seat_cards t.seats 80 at.s-index missing_seat below at.invariant (no_hand at.of s.hands.many s.hands.places (omega (arith, w.if-s-ne0.false))))
    ]
