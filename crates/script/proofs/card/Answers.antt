-- Four suits of thirteen ranks: no product and no sum leaves a byte.
use native.Mathlib.Omega.{arith}
use Rattle.script.proofs.Cards.{rank_most, suit-most}
use Rattle.script.proofs.card.Goals as goal

pub overflow_mul-result : goal.overflow_mul-result
overflow_mul-result c = omega (arith, suit-most c.args.second)

pub overflow_add-result : goal.overflow_add-result
overflow_add-result c = omega (arith, suit-most c.args.second, rank_most c.args.first)
