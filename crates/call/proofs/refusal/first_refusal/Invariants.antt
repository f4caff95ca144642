-- No condition so far holds: those that are left say what all say.
use Rattle.std.proofs.Common.{◌≡◌, map, drop}
use Rattle.call.specs.Refusal.{numbered, first}
use Rattle.call.proofs.refusal.first_refusal.Given as goal

abbrev pub invariant-loop-why : goal.invariant-loop-why
invariant-loop-why l = first (map numbered l.conditions) ≡ first (map numbered (drop l.why-index l.conditions))
