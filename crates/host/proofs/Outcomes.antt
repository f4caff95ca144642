-- An arrival's and a leaving's code first asks its conditions, then gives back why one refuses it, or the effect.
use mathlib.Core.Path.{◌≡◌, sym, ◌∙◌, ap}
use mathlib.Core.Bool.{Bool, true, cond}
use mathlib.Core.List.{List, ◌∷◌}
use borrow.Author.Tests.{ne_eqb}
use Rattle.std.specs.Prelude.{Result}
use Rattle.std.specs.Result.{IsErrAnd}
use Rattle.call.specs.declared.refusal.Refusal.{Refusal}
use Rattle.call.specs.Refusal.{Condition, number_of, first}
use Rattle.call.proofs.Refusals.{residual, refusal_some}
use Rattle.host_spec.specs.declared.Hosted.{Hosted}
use Rattle.host.specs.Outcome.{make_host_outcome, host_outcome, host_outcome_in}

module _ (conditions : List Condition) (effect h : Hosted) where
  pub host_refused : (why : Refusal) → number_of why ≡ first conditions → make_host_outcome (number_of why) h ≡ host_outcome conditions effect h
  unfolding host_outcome
  host_refused why e = rw (← e, ne_eqb (number_of why) 0 (refusal_some why))

  -- a `?` that met a refusal
  pub host_met : (r : Result Hosted Refusal) (why : Refusal) → IsErrAnd r (λ e. e ≡ why) → number_of why ≡ first conditions → host_outcome_in h r ≡ host_outcome conditions effect h
  host_met r why met e = ap (host_outcome_in h) (residual r met) ∙ host_refused why e

  pub host_accepted_lem : (after : Hosted) → 0 ≡ first conditions → after ≡ effect → make_host_outcome 0 after ≡ host_outcome conditions effect h
  unfolding host_outcome
  host_accepted_lem after e same = rw (← e, same)

-- what is broken answers 1, whatever is asked behind it
pub broken-first : (b : Bool) (conditions : List Condition) → b ≡ true → 1 ≡ first ((1, b) ∷ conditions)
unfolding first
broken-first b conditions e = sym (ap (λ (x : Bool). cond x 1 (first conditions)) e)
