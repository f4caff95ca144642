-- A call's code first asks its conditions, then gives back why one refuses it, or the effect.
use mathlib.Core.Path.{◌≡◌, ◌∙◌, ap}
use mathlib.Core.List.{List}
use Prim.Native.Nat.{ℕ}
use borrow.Author.Tests.{ne_eqb}
use Rattle.std.specs.Prelude.{Result}
use Rattle.std.specs.Result.{IsErrAnd}
use Rattle.call.specs.declared.refusal.Refusal.{Refusal}
use Rattle.call.specs.Refusal.{Condition, number_of, first}
use Rattle.call.proofs.Refusals.{residual, refusal_some}
use Rattle.table.specs.declared.Table.{Table}
use Rattle.answer.specs.declared.moved.Moved.{Moved}
use Rattle.answer.specs.Moved.{moved_outcome}
use Rattle.answer.specs.Outcome.{make_outcome, outcome, outcome_in}

module _ (conditions : List Condition) (effect t : Table) where
  pub refused : (why : Refusal) → number_of why ≡ first conditions → make_outcome (number_of why) t ≡ outcome conditions effect t
  unfolding outcome
  refused why e = rw (← e, ne_eqb (number_of why) 0 (refusal_some why))

  -- a `?` that met a refusal, in a call of the whole table and in one of a seat
  pub refused-whole : (r : Result Table Refusal) (why : Refusal) → IsErrAnd r (λ e. e ≡ why) → number_of why ≡ first conditions → outcome_in t r ≡ outcome conditions effect t
  refused-whole r why met e = ap (outcome_in t) (residual r met) ∙ refused why e

  pub refused-seat : (j : ℕ) (r : Result Moved Refusal) (why : Refusal) → IsErrAnd r (λ e. e ≡ why) → number_of why ≡ first conditions
      → moved_outcome t j r ≡ outcome conditions effect t
  refused-seat j r why met e = ap (moved_outcome t j) (residual r met) ∙ refused why e

  pub accepted : {u : Table} → 0 ≡ first conditions → u ≡ effect → make_outcome 0 u ≡ outcome conditions effect t
  unfolding outcome
  accepted e same = rw (← e, same)
