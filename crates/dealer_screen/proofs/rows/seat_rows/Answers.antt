-- Place by place: before each turn the rows are those with the hands of the first places that are wanted, so at most as many more.
use mathlib.Core.Path.{◌≡◌, refl, sym, ◌∙◌, ap}
use mathlib.Core.List.{List}
use Prim.Native.Nat.{ℕ, ◌+◌, ◌≤◌}
use native.Mathlib.Omega.{arith}
use lib.ListN.{length, take, get_or, length-take}
use lib.Seq.{take_all}
use Rattle.rules.specs.declared.seat_hand.SeatHand.{SeatHand}
use Rattle.rules.specs.SeatHand.{hands_of}
use Rattle.rules.proofs.seat_hand.Places.{many_hands}
use Rattle.table.specs.Seat.{missing_place}
use Rattle.dealer_screen.specs.declared.rows.Rows.{Rows}
use Rattle.dealer_screen.specs.Rows.{row, place_rows}
use Rattle.dealer_screen.specs.Aids.Held.{with_row, with_rows, wanted}
use Rattle.dealer_screen.proofs.Gather.{places_to, place_more, place_same}
use borrow.Author.Rules.{rules}
use Rattle.dealer_screen.proofs.rows.seat_rows.Goals as goal
use Rattle.dealer_screen.proofs.rows.seat_rows.Goals.{then-wanted, else-wanted}

pub loop-place-init : goal.loop-place-init
unfolding with_rows place_rows
loop-place-init c = (refl, omega arith)

pub loop-place-preserved : goal.loop-place-preserved
unfolding with_row
loop-place-preserved c =
    let a = c.args in
    let place = c.loop-place.place in
    let many = c.used-many.result in
    let places = c.in_use-h-items.result.now in
    let passes = wanted a.waiting a.o a.card many in
    let asked = c.wanted.ensures in
    let next : (c.if-wanted.next ≡ places_to passes a.seat places a.rows (place + 1)) × (c.if-wanted.next.count ≤ a.rows.count + (place + 1)) =
    elim c.if-wanted.branch [
      | then-wanted w ↦
          let made : c.if-wanted.next ≡ with_row c.loop-place.next (row a.seat place (get_or places place missing_place)) = w.next-is ∙ w.with_row-next.ensures ∙ ap (with_row c.loop-place.next) w.hand_row.ensures in
          (made ∙ place_more passes a.seat places a.rows place c.loop-place.next (omega arith) (sym asked ∙ w.if-wanted.true) c.loop-place.invariant.0, omega (arith, ap (λ (r : Rows). r.count) made))
      | else-wanted w ↦
          (w.next-is ∙ place_same passes a.seat places a.rows place c.loop-place.next (omega arith) (sym asked ∙ w.if-wanted.false) c.loop-place.invariant.0, omega (arith, ap (λ (r : Rows). r.count) w.next-is))
    ] in
    next

pub returns : goal.returns
returns c =
    let a = c.args in
    let hands = a.s.hands in
    let places = c.in_use-h-items.result.now in
    let full : length hands.places ≡ 4 = search rules in
    let few : length places ≤ 4 = omega (arith, ap length c.in_use-h-items.ensures, length-take hands.many hands.places) in
    let number : c.used-many.result ≡ length (hands_of hands) = c.used-many.ensures ∙ sym (many_hands hands full) in record {
      same = c.loop-place.invariant.0
          ∙ ap (λ (hs : List SeatHand). with_rows a.rows (place_rows (wanted a.waiting a.o a.card c.used-many.result) a.seat 0 hs)) (take_all c.loop-place.place places (omega arith) ∙ c.in_use-h-items.ensures)
          ∙ ap (λ (n : ℕ). with_rows a.rows (place_rows (wanted a.waiting a.o a.card n) a.seat 0 (take hands.many hands.places))) number;
      few = omega (arith, few);
    }
