-- The hand that a decision in turn is about, as the code has read it: it is the first waiting one of its seat.
use Rattle.std.specs.Prelude.{◌≡◌, IfOk, Result, true, List, ◌<◌, length}
use Rattle.call.specs.declared.At.{At}
use Rattle.call.specs.declared.refusal.Refusal.{Refusal}
use Rattle.call.specs.Refusal.{Condition, number_in, first}
use Rattle.rules.specs.Turn.{seat_waits}
use Rattle.table.specs.declared.Table.{Table}
use Rattle.table.specs.Seat.{hands}
use Rattle.table.specs.Table.{seat_at, up}
use Rattle.decisions_spec.specs.Turn.{waiting_place_of, waiting_hand_of}
use Rattle.decisions.specs.declared.turn.HandInTurn.{HandInTurn}

pub record InTurn (t : Table) (h : HandInTurn) : Type 0 where
  pub waits : seat_waits t.options (up t) (hands (seat_at t h.guest.seat)) ≡ true
  pub up_is : h.in_seat.up ≡ up t
  pub many_is : h.in_seat.many ≡ length (hands (seat_at t h.guest.seat))
  pub place_is : h.place ≡ waiting_place_of t h.guest.seat
  pub four : h.place < 4
  pub hand_is : h.in_seat.hand ≡ waiting_hand_of t h.guest.seat

-- What a check of a decision in turn gives: why the call is refused, by its conditions, or that hand, of the guest whom the call names.
pub record TurnChecked (conditions : List Condition) (t : Table) (at : At) (r : Result HandInTurn Refusal) : Type 0 where
  pub number : number_in r ≡ first conditions
  pub hand : IfOk r (λ h. (h.guest ≡ at) × InTurn t h)
