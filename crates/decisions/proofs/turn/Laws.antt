-- A decision in turn asks its conditions in turn first: their number is the call's, or none of them holds, what is asked behind them decides, and the hand whose turn it is
-- is handed on.
use mathlib.Core.Path.{◌≡◌, refl, sym, ◌∙◌}
use mathlib.Core.Bool.{true}
use mathlib.Core.List.{List, [], ◌++◌}
use Prim.Native.Nat.{ℕ, ◌<◌}
use native.Mathlib.Omega.{arith}
use lib.ListN.{length}
use borrow.Author.Tests.{ltb-true}
use Rattle.lists.specs.Tests.{all_of}
use Rattle.lists.proofs.Tests.{first_inside}
use Rattle.options.specs.declared.Options.{Options}
use Rattle.rules.proofs.seat_hand.Places.{many_hands}
use Rattle.rules.specs.Waits.{waits}
use Rattle.rules.specs.Turn.{seat_waits, waiting_place}
use Rattle.std.specs.Prelude.{Result, Ok}
use Rattle.std.specs.Result.{IsErrAnd, result_and}
use Rattle.std.proofs.lemmas.Result.{IfOk-weaker}
use Rattle.call.specs.declared.At.{At}
use Rattle.call.specs.declared.refusal.Refusal.{Refusal}
use Rattle.call.specs.Refusal.{Condition, number_of, number_in, first}
use Rattle.call.proofs.Refusals.{first-behind, residual, and_number, and_value}
use Rattle.table.specs.declared.Seat.{Seat}
use Rattle.table.specs.declared.Table.{Table}
use Rattle.table.specs.Seat.{hands}
use Rattle.table.specs.Table.{seat_at, up}
use Rattle.answer.specs.Conditions.{seat_conditions, guest_conditions}
use Rattle.answer.proofs.conditions.Laws.{refuses}
use Rattle.decisions_spec.specs.Turn.{turn_conditions}
use Rattle.decisions_spec.proofs.Turn.{turn-accepted}
use Rattle.decisions.specs.declared.turn.HandInTurn.{HandInTurn}
use Rattle.decisions.specs.InTurn.{InTurn, TurnChecked}

-- where none of them holds a hand of the seat waits
pub turn_waits : (t : Table) (j p : ℕ) → 0 ≡ first (turn_conditions t j p) → seat_waits t.options (up t) (hands (seat_at t j)) ≡ true
unfolding turn_conditions guest_conditions seat_conditions all_of
turn_waits t j p none = (turn-accepted t j p [] refl (sym none)).0.waits

-- what refuses such a call by the conditions in turn
pub refused_turn : (asked : List Condition) {t : Table} {at : At} (r : Result HandInTurn Refusal) (why : Refusal) → IsErrAnd r (λ e. e ≡ why) → number_of why ≡ first asked
    → (rest : List Condition) → TurnChecked (asked ++ rest) t at r
refused_turn asked r why met e rest =
    record {
      number = refuses asked r why met e rest;
      hand = rw (residual r met) tt;
    }

-- what is asked behind them decides, and else the hand is handed on
pub behind_turn : (t : Table) (at : At) (h : HandInTurn) → 0 ≡ first (turn_conditions t at.seat at.position) → (h.guest ≡ at) × InTurn t h
    → {T : Type 0} (r : Result T Refusal) (rest : List Condition) → number_in r ≡ first rest → TurnChecked (turn_conditions t at.seat at.position ++ rest) t at (result_and r (Ok h))
unfolding turn_conditions guest_conditions seat_conditions all_of
behind_turn t at h none turn r rest e =
    record {
      number = and_number r h ∙ e ∙ sym (first-behind (turn_conditions t at.seat at.position) rest refl (sym none));
      hand = IfOk-weaker (result_and r (Ok h)) (λ x. x ≡ h) (λ x. (x.guest ≡ at) × InTurn t x) (λ x same. rw same turn) (and_value r h);
    }

-- the first waiting hand of a seat is in one of its four places
pub place_of-four : (o : Options) (card : ℕ) (s : Seat) → length s.hands.places ≡ 4 → seat_waits o card (hands s) ≡ true → waiting_place o card (hands s) < 4
place_of-four o card s full some =
    let inside : waiting_place o card (hands s) < length (hands s) = ltb-true _ _ (first_inside (waits o card (length (hands s))) (hands s) ∙ some) in
    omega (arith, many_hands s.hands full)
