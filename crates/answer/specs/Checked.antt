-- What a check of a guest's call gives: why the call is refused, by its conditions, or the guest that it names.
use Rattle.std.specs.Prelude.{◌≡◌, IfOk, Result, List}
use Rattle.call.specs.declared.At.{At}
use Rattle.call.specs.declared.refusal.Refusal.{Refusal}
use Rattle.call.specs.Refusal.{Condition, number_in, first}

pub record Checked (conditions : List Condition) (at : At) (r : Result At Refusal) : Type 0 where
  pub number : number_in r ≡ first conditions
  pub guest : IfOk r (λ g. g ≡ at)
