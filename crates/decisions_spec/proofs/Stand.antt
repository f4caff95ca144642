-- An accepted stand ends the hand whose turn it is, and moves no money and no card.
use mathlib.Core.Path.{◌≡◌, refl}
use mathlib.Core.List.{List, []}
use Prim.Native.Nat.{ℕ}
use native.Mathlib.Omega.{arith}
use Rattle.lists.specs.Tests.{all_of}
use Rattle.rules.specs.SeatHand.{by_stand}
use Rattle.call.specs.declared.At.{At}
use Rattle.call.specs.declared.Call.TheVariants.{Stand}
use Rattle.call.specs.Refusal.{first}
use Rattle.history.specs.Aids.MakeEntry.{entry}
use Rattle.history.specs.Hands.{decide}
use Rattle.table.specs.declared.Table.{Table}
use Rattle.table.specs.Broken.{sound_ending}
use Rattle.table.specs.Shape.{Shaped}
use Rattle.table.specs.Aids.Sound.{Sound}
use Rattle.answer.specs.Conditions.{seat_conditions, guest_conditions}
use Rattle.decisions_spec.specs.Turn.{turn_conditions, waiting_place_of}
use Rattle.decisions_spec.specs.Stand.{stand_conditions, stand_effect}
use Rattle.decisions_spec.proofs.Decision.{Decision}
use Rattle.decisions_spec.proofs.Turn.{turn-accepted}
use Rattle.decisions_spec.proofs.End.{Ends, end-in_turn}

pub stand_decides : (t : Table) (at : At) (order : List ℕ) → Shaped t → Sound t → first (stand_conditions t at.seat at.position) ≡ 0
    → Decision t (entry (Stand at) order) (stand_effect t at.seat)
unfolding turn_conditions guest_conditions seat_conditions all_of decide sound_ending
stand_decides t at order shaped sound e =
    let ends : Ends t (entry (Stand at) order) at.seat (waiting_place_of t at.seat) by_stand =
    record { deciding = record { among = refl; no_insure = refl; seat_is = refl }; plain = refl; ends_one = refl; decides = λ c. refl; some_code = omega arith; fits = refl; single = λ h. omega arith } in
    end-in_turn t (entry (Stand at) order) at.seat by_stand ends shaped sound (turn-accepted t at.seat at.position [] refl e).0
