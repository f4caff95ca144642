-- The conditions are asked in the order of the list: those of every call of a seat first, then what names the side stake.
use mathlib.Core.Path.{◌≡◌, refl, sym, ◌∙◌}
use mathlib.Core.Bool.{not}
use mathlib.Core.List.{List, [], ◌∷◌, ◌++◌}
use Prim.Native.Nat.{ℕ}
use borrow.Author.Tests.{leb-false}
use Rattle.std.specs.Prelude.{Result}
use Rattle.std.specs.Result.{IsErrAnd}
use Rattle.lists.specs.Tests.{all_of}
use Rattle.call.specs.declared.refusal.Refusal.{Refusal}
use Rattle.call.specs.Refusal.{Condition, number_of, number_in, first}
use Rattle.call.proofs.Refusals.{residual, first-behind, none_hold, and_number}
use Rattle.table.specs.declared.Table.{Table}
use Rattle.answer.specs.Conditions.{between_rounds, seat_conditions, no_position}
use Rattle.answer.proofs.conditions.Laws.{refuses, refused-check, handed-on, seat-passes, seat-nine}
use Rattle.cashier_spec.specs.Side.{is_side_kind, side_conditions}
use Rattle.cashier.proofs.side.check_side.Goals.{In_ok-first_refusal}
use Rattle.cashier.proofs.side.check_side.Goals as goal

-- what names the side stake, its kind and its position
abbrev naming : ℕ → ℕ → List Condition
naming kind p = (21, not (is_side_kind kind)) ∷ no_position p ∷ []

named : (c : In_ok-first_refusal) → 0 ≡ first (naming c.args.kind c.args.at.position)
unfolding first
named c = simp c.is_side_kind.ensures at c.in_ok-first_refusal.ensures

-- where none of the first holds, those that name it decide, and where none of these holds, what is asked behind them
module _ (t : Table) (j kind p : ℕ) (none : 0 ≡ first (seat_conditions (between_rounds t) t j)) where
  naming-refuses : {T : Type 0} (r : Result T Refusal) (why : Refusal) → IsErrAnd r (λ e. e ≡ why) → number_of why ≡ first (naming kind p) → (rest : List Condition)
      → number_in r ≡ first (seat_conditions (between_rounds t) t j ++ (21, not (is_side_kind kind)) ∷ no_position p ∷ rest)
  naming-refuses r why met e rest = refuses (naming kind p) r why met e rest ∙ sym (seat-passes (between_rounds t) t j refl none (naming kind p ++ rest))

  both-pass : 0 ≡ first (naming kind p) → (rest : List Condition)
      → first (seat_conditions (between_rounds t) t j ++ (21, not (is_side_kind kind)) ∷ no_position p ∷ rest) ≡ first rest
  unfolding all_of
  both-pass names rest = seat-passes (between_rounds t) t j refl none (naming kind p ++ rest) ∙ first-behind (naming kind p) rest refl (sym names)

pub returns-in_err-check_seat : goal.returns-in_err-check_seat
unfolding side_conditions
returns-in_err-check_seat c = refused-check _ _ _ c.from_residual.ensures.1 c.in_err-check_seat.ensures _

pub returns-in_err-first_refusal : goal.returns-in_err-first_refusal
unfolding side_conditions first
returns-in_err-first_refusal c =
    record {
      number =
          naming-refuses _ _ _ _ c.in_ok-check_seat.ensures _ _ c.from_residual-in_err-first_refusal.ensures.1
          (simp c.is_side_kind.ensures at c.in_err-first_refusal.ensures) _;
      guest = rw (residual _ c.from_residual-in_err-first_refusal.ensures.1) tt;
    }

pub new-guest-requires-clause-seat : goal.new-guest-requires-clause-seat
new-guest-requires-clause-seat c = seat-nine _ _ _ refl c.in_ok-check_seat.ensures

pub new-guest-requires-clause-position : goal.new-guest-requires-clause-position
unfolding all_of
new-guest-requires-clause-position c =
    let call = (goal.at.new-guest-requires-clause-position c).In_ok-first_refusal in
    let (_, (position, _)) = none_hold (naming c.args.kind c.args.at.position) refl (sym (named call)) in
    leb-false 3 _ position

pub returns : goal.returns
unfolding side_conditions first
returns c =
    let at = goal.at.returns c in
    rw c.and.ensures (record {
      number =
          and_number c.first_refusal-2.result c.new-guest.result
          ∙ (simp (
            c.first_refusal-2.ensures,
            c.side_permitted.ensures,
            c.side_of.ensures,
            c.guest_money-money.ensures,
            c.table.ensures.same,
            c.new-guest.ensures,
          ))
          ∙ sym (both-pass _ _ _ _ c.in_ok-check_seat.ensures (named at.In_ok-first_refusal) _);
      guest = handed-on _ _ _ c.new-guest.ensures;
    })
