-- A tally that fits has room for one round more.
use native.Mathlib.Omega.{arith}
use Rattle.host.proofs.counting.with_round.Goals as goal

pub overflow_add-result-2 : goal.overflow_add-result-2
overflow_add-result-2 c = omega arith

pub overflow_add-result-3 : goal.overflow_add-result-3
overflow_add-result-3 c = omega arith
