-- The ten bytes of a call that they can hold; any other is refused.
use Rattle.std.specs.Prelude.{◌≡◌, Result, MatchResult, true, false}
use Rattle.call.specs.declared.Call.{Call}
use Rattle.call.specs.declared.refusal.Refusal.{Refusal}
use Rattle.call.specs.declared.refusal.Refusal.TheVariants.{FileContent}
use Rattle.file_spec.specs.CallBlock.{call_bytes}
use Rattle.file_spec.specs.File.{fits}
use Rattle.file_writer.specs.declared.codes.Code.{Code}

abbrev pub CodeOf : Call → Result Code Refusal → Type 0
CodeOf c r = MatchResult r (λ code. (fits c ≡ true) × (code.0 ≡ call_bytes c)) (λ why. (fits c ≡ false) × (why ≡ FileContent))
