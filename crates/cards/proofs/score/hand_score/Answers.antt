-- Total and low sum are the definition's, and twenty cards come to so little that a byte holds the total.
use mathlib.Core.Path.{◌≡◌}
use Prim.Native.Nat.{◌≤◌}
use native.Mathlib.Omega.{arith}
use lib.ListN.{length, length-take}
use Rattle.cards.specs.declared.hand.Hand.{Hand}
use Rattle.cards.specs.Hand.{cards_of}
use Rattle.cards.proofs.total.Bounds.{total-most}
use borrow.Author.Rules.{rules}
use Rattle.cards.proofs.score.hand_score.Goals as goal

few : (h : Hand) → length h.cards ≡ 20 → length (cards_of h) ≤ 20
few h full = simp length-take (omega arith)

pub overflow_cast-result : goal.overflow_cast-result
overflow_cast-result c =
    let h = c.args.h in
    let full : length h.cards ≡ 20 = search rules in
    omega (arith, c.total-all.ensures, total-most (cards_of h), few h full)
