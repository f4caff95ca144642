-- Some hand waits, so the first waiting place is one of the four.
use native.Mathlib.Omega.{arith}
use Prim.Native.Nat.{◌<◌}
use Rattle.decisions.proofs.turn.Laws.{place_of-four}
use Rattle.decisions.proofs.turn.waiting_hand.Goals.{After-waiting_place}
use Rattle.decisions.proofs.turn.waiting_hand.Goals as goal

four : (c : After-waiting_place) → c.waiting_place.result < 4
four c = rw c.waiting_place.ensures (place_of-four c.args.o c.args.up c.args.s.now c.places_shape.ensures c.requires)

pub offset_bounds-hands-waiting_place : goal.offset_bounds-hands-waiting_place
offset_bounds-hands-waiting_place c = omega (arith, four c)

pub bounds-hands-waiting_place : goal.bounds-hands-waiting_place
bounds-hands-waiting_place c = four c
