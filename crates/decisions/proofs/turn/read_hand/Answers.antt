-- Some hand waits, so the first waiting place is one of the four.
use mathlib.Core.Path.{sym, ◌∙◌}
use native.Mathlib.Omega.{arith}
use Prim.Native.Nat.{◌<◌}
use Rattle.rules.proofs.seat_hand.Places.{many_hands}
use Rattle.decisions.proofs.turn.Laws.{place_of-four}
use Rattle.decisions.proofs.turn.read_hand.Goals.{After-waiting_place-place}
use Rattle.decisions.proofs.turn.read_hand.Goals as goal

four : (c : After-waiting_place-place) → c.waiting_place-place.result < 4
four c = rw (c.waiting_place-place.ensures, c.up-up.ensures) (place_of-four _ _ c.guest_seat.result.now c.places_shape.ensures (rw c.guest_seat.ensures c.requires))

pub offset_bounds-hands-place : goal.offset_bounds-hands-place
offset_bounds-hands-place c = omega (arith, four (goal.at.offset_bounds-hands-place c).After-waiting_place-place)

pub bounds-hands-place : goal.bounds-hands-place
bounds-hands-place c = four (goal.at.bounds-hands-place c).After-waiting_place-place

pub returns-clause-turn : goal.returns-clause-turn
returns-clause-turn c =
    record {
      waits = c.requires;
      up_is = c.up-up.ensures;
      many_is = c.used.ensures ∙ sym (many_hands c.guest_seat.result.now.hands c.places_shape.ensures) ∙ simp c.guest_seat.ensures;
      place_is = simp (c.waiting_place-place.ensures, c.up-up.ensures, c.guest_seat.ensures);
      four = four (goal.at.returns-clause-turn c).After-waiting_place-place;
      hand_is = simp (c.waiting_place-place.ensures, c.up-up.ensures, c.guest_seat.ensures);
    }
