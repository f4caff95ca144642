-- The conditions are asked in the order of the list; 1 never holds of a whole table. Where none holds the guest is one of the 27.
use mathlib.Core.Path.{◌≡◌, ◌∙◌, ap}
use Rattle.call.specs.Refusal.{number_in, numbered, first}
use Rattle.call.proofs.Refusals.{residual, refusal_number}
use Rattle.answer.specs.Conditions.{guest_conditions}
use Rattle.answer.proofs.conditions.Laws.{whole_guest, guest-nine, guest_three}
use Rattle.answer.proofs.conditions.check_guest.Goals.{In_ok-first_refusal}
use Rattle.answer.proofs.conditions.check_guest.Goals as goal

-- none of them holds
passed : (c : In_ok-first_refusal) → 0 ≡ first (guest_conditions (numbered c.args.phase) c.args.t.now c.args.at.seat c.args.at.position)
passed c = whole_guest _ _ c.table.ensures.whole _ _ (simp c.table.ensures.same at c.in_ok-first_refusal.ensures)

pub returns-in_err-first_refusal : goal.returns-in_err-first_refusal
returns-in_err-first_refusal c =
    record {
      number = ap number_in (residual _ c.from_residual.ensures.1) ∙ whole_guest _ _ c.table.ensures.whole _ _ (simp c.table.ensures.same at c.in_err-first_refusal.ensures);
      guest = rw (residual _ c.from_residual.ensures.1) tt;
    }

pub new-requires-clause-seat : goal.new-requires-clause-seat
new-requires-clause-seat c = guest-nine _ _ _ _ (refusal_number c.args.phase.0) (passed (goal.at.new-requires-clause-seat c).In_ok-first_refusal)

pub new-requires-clause-position : goal.new-requires-clause-position
new-requires-clause-position c = guest_three _ _ _ _ (refusal_number c.args.phase.0) (passed (goal.at.new-requires-clause-position c).In_ok-first_refusal)

pub returns : goal.returns
returns c = record { number = passed (goal.at.returns c).In_ok-first_refusal; guest = c.new.ensures }
