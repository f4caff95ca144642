-- What an arrival or a leaving gives back, as document 01 says of every call: the first number whose condition holds, and then the hosted table as it was; an accepted one gives 0 and its effect.
use Rattle.std.specs.Prelude.{cond, List, ℕ, eqb, Result, Ok, Err}
use Rattle.call.specs.declared.refusal.Refusal.{Refusal}
use Rattle.call.specs.Refusal.{Condition, first, number_of}
use Rattle.host_spec.specs.declared.Hosted.{Hosted}

pub record HostOutcome : Type 0 where
  pub number : ℕ
  pub hosted : Hosted

abbrev pub make_host_outcome : ℕ → Hosted → HostOutcome
make_host_outcome number hosted = record { number = number; hosted = hosted }

unfoldable pub host_outcome : List Condition → Hosted → Hosted → HostOutcome
host_outcome conditions effect refused = make_host_outcome (first conditions) (cond (eqb (first conditions) 0) effect refused)

-- The outcome of a call of the hosted table h that gives the one after it, or why it is refused.
abbrev pub host_outcome_in : Hosted → Result Hosted Refusal → HostOutcome
host_outcome_in h (Ok next) = make_host_outcome 0 next
host_outcome_in h (Err why) = make_host_outcome (number_of why) h
