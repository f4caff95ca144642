-- An accepted even ends the hand whose turn it is, and moves no money and no card: it is paid at close.
use mathlib.Core.Path.{◌≡◌, refl}
use mathlib.Core.Bool.{true, and-eq-true_iff}
use mathlib.Core.List.{List}
use Prim.Native.Nat.{ℕ}
use native.Mathlib.Omega.{arith}
use lib.ListN.{length}
use borrow.Author.Tests.{not-false}
use Rattle.lists.specs.Tests.{all_of}
use Rattle.rules.specs.SeatHand.{played_of, natural, by_even}
use Rattle.rules.specs.OpenCalls.{even_open}
use Rattle.rules.specs.Waits.{waits}
use Rattle.rules.specs.Leaving.{permits_even}
use Rattle.call.specs.declared.At.{At}
use Rattle.call.specs.declared.Call.TheVariants.{Even}
use Rattle.call.specs.Refusal.{first}
use Rattle.history.specs.Aids.MakeEntry.{entry}
use Rattle.history.specs.Hands.{decide}
use Rattle.table.specs.declared.Table.{Table}
use Rattle.table.specs.Seat.{hands}
use Rattle.table.specs.Table.{seat_at, up}
use Rattle.table.specs.Broken.{sound_ending}
use Rattle.table.specs.Shape.{Shaped}
use Rattle.table.specs.Aids.Sound.{Sound}
use Rattle.decisions_spec.specs.Turn.{waiting_place_of, waiting_hand_of, may_take}
use Rattle.decisions_spec.specs.Even.{even_conditions, even_effect}
use Rattle.decisions_spec.proofs.Decision.{Decision}
use Rattle.decisions_spec.proofs.Turn.{turn-accepted}
use Rattle.decisions_spec.proofs.End.{Ends, end-in_turn}

pub even_decides : (t : Table) (at : At) (order : List ℕ) → Shaped t → Sound t → first (even_conditions t at.seat at.position) ≡ 0
    → Decision t (entry (Even at) order) (even_effect t at.seat)
unfolding even_conditions all_of decide sound_ending permits_even even_open natural
even_decides t at order shaped sound e =
    let h = played_of (waiting_hand_of t at.seat) in
    let (turn, (permitted, _)) = turn-accepted t at.seat at.position _ refl e in
    let fits : even_open (up t) h ≡ true =
    ((and-eq-true_iff (waits t.options (up t) (length (hands (seat_at t at.seat))) h) (even_open (up t) h)).0 (not-false (may_take permits_even t at.seat) permitted)).1 in
    let ends : Ends t (entry (Even at) order) at.seat (waiting_place_of t at.seat) by_even =
    record { deciding = record { among = refl; no_insure = refl; seat_is = refl }; plain = refl; ends_one = refl; decides = λ c. refl; some_code = omega arith; fits = fits; single = λ h. omega arith } in
    end-in_turn t (entry (Even at) order) at.seat by_even ends shaped sound turn
