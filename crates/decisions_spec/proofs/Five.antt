-- An accepted five ends the hand whose turn it is, and moves no money and no card: it is paid at close.
use mathlib.Core.Path.{◌≡◌, refl}
use mathlib.Core.Bool.{true, and-eq-true_iff}
use mathlib.Core.List.{List}
use Prim.Native.Nat.{ℕ}
use native.Mathlib.Omega.{arith}
use lib.ListN.{length}
use borrow.Author.Tests.{not-false}
use Rattle.lists.specs.Tests.{all_of}
use Rattle.rules.specs.SeatHand.{played_of, by_five}
use Rattle.rules.specs.OpenCalls.{five_open}
use Rattle.rules.specs.Waits.{waits}
use Rattle.rules.specs.Leaving.{permits_five}
use Rattle.call.specs.declared.At.{At}
use Rattle.call.specs.declared.Call.TheVariants.{Five}
use Rattle.call.specs.Refusal.{first}
use Rattle.history.specs.Aids.MakeEntry.{entry}
use Rattle.history.specs.Hands.{decide}
use Rattle.table.specs.declared.Table.{Table}
use Rattle.table.specs.Seat.{hands}
use Rattle.table.specs.Table.{seat_at, up}
use Rattle.table.specs.Broken.{sound_ending}
use Rattle.table.specs.Shape.{Shaped}
use Rattle.table.specs.Aids.Sound.{Sound}
use Rattle.decisions_spec.specs.Turn.{waiting_place_of, waiting_hand_of, may_take}
use Rattle.decisions_spec.specs.Five.{five_conditions, five_effect}
use Rattle.decisions_spec.proofs.Decision.{Decision}
use Rattle.decisions_spec.proofs.Turn.{turn-accepted}
use Rattle.decisions_spec.proofs.End.{Ends, end-in_turn}

pub five_decides : (t : Table) (at : At) (order : List ℕ) → Shaped t → Sound t → first (five_conditions t at.seat at.position) ≡ 0
    → Decision t (entry (Five at) order) (five_effect t at.seat)
unfolding five_conditions all_of decide sound_ending permits_five five_open
five_decides t at order shaped sound e =
    let h = played_of (waiting_hand_of t at.seat) in
    let (turn, (permitted, _)) = turn-accepted t at.seat at.position _ refl e in
    let fits : five_open t.options (up t) h ≡ true =
    ((and-eq-true_iff (waits t.options (up t) (length (hands (seat_at t at.seat))) h) (five_open t.options (up t) h)).0 (not-false (may_take permits_five t at.seat) permitted)).1 in
    let ends : Ends t (entry (Five at) order) at.seat (waiting_place_of t at.seat) by_five =
    record { deciding = record { among = refl; no_insure = refl; seat_is = refl }; plain = refl; ends_one = refl; decides = λ c. refl; some_code = omega arith; fits = fits; single = λ h. omega arith } in
    end-in_turn t (entry (Five at) order) at.seat by_five ends shaped sound turn
