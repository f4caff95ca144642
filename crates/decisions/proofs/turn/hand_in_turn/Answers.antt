-- The conditions are asked in the order of the list: those of every call of a guest first. Where none holds a hand of the seat waits.
use mathlib.Core.Path.{◌≡◌, refl, sym, ◌∙◌, ap}
use Rattle.call.specs.Refusal.{number_in, first}
use Rattle.call.proofs.Refusals.{residual}
use Rattle.answer.proofs.conditions.Laws.{guest-passes}
use Rattle.decisions_spec.specs.Turn.{turn_conditions}
use Rattle.decisions.proofs.turn.Laws.{refused_turn, turn_waits}
use Rattle.decisions.proofs.turn.hand_in_turn.Goals.{In_ok-first_refusal}
use Rattle.decisions.proofs.turn.hand_in_turn.Goals as goal

-- none of them holds
passed : (c : In_ok-first_refusal) → 0 ≡ first (turn_conditions c.args.t.now c.args.at.seat c.args.at.position)
unfolding turn_conditions first
passed c =
    c.in_ok-first_refusal.ensures
    ∙ (simp (
      c.decider.ensures,
      c.seat.ensures.same,
      c.seat_in_turn.ensures,
      c.guest_money-money.ensures,
      c.guest_seat.ensures,
      c.table-t.ensures.same,
      c.in_ok-guest.ensures.guest,
    ))
    ∙ sym (guest-passes _ _ _ _ refl c.in_ok-guest.ensures.number _)

pub returns-in_err-guest : goal.returns-in_err-guest
unfolding turn_conditions
returns-in_err-guest c = refused_turn _ _ _ c.from_residual.ensures.1 c.in_err-guest.ensures.number _

pub returns-in_err-first_refusal : goal.returns-in_err-first_refusal
unfolding turn_conditions first
returns-in_err-first_refusal c =
    record {
      number =
          ap number_in (residual _ c.from_residual-in_err-first_refusal.ensures.1)
          ∙ c.in_err-first_refusal.ensures
          ∙ (simp (
            c.decider.ensures,
            c.seat.ensures.same,
            c.seat_in_turn.ensures,
            c.guest_money-money.ensures,
            c.guest_seat.ensures,
            c.table-t.ensures.same,
            c.in_ok-guest.ensures.guest,
          ))
          ∙ sym (guest-passes _ _ _ _ refl c.in_ok-guest.ensures.number _);
      hand = rw (residual _ c.from_residual-in_err-first_refusal.ensures.1) tt;
    }

pub read_hand-requires : goal.read_hand-requires
read_hand-requires c = rw (c.table-t.ensures.same, c.in_ok-guest.ensures.guest) (turn_waits _ _ _ (passed (goal.at.read_hand-requires c).In_ok-first_refusal))

pub returns : goal.returns
returns c =
    record {
      number = passed (goal.at.returns c).In_ok-first_refusal;
      hand = (c.read_hand.ensures.same ∙ c.in_ok-guest.ensures.guest, rw c.table-t.ensures.same at c.read_hand.ensures.turn);
    }
