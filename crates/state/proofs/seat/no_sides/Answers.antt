-- The four are compared with zeros in their order.
use mathlib.Core.Path.{◌≡◌, refl}
use mathlib.Core.Bool.{Bool, true, false, ◌&&◌}
use mathlib.Core.List.{List, [], ◌∷◌}
use Prim.Native.Nat.{ℕ}
use native.Mathlib.Omega.{arith}
use lib.Dec.{eqb}
use lib.ListN.{length, get_or}
use lib.Pointwise.{pointwise}
use borrow.Author.Rules.{rules}
use Rattle.lists.specs.Below.{all_below}
use Rattle.state.proofs.seat.no_sides.Goals as goal

-- four tests, grouped from either end
four : (a b c d : Bool) → a && (b && (c && (d && true))) ≡ a && b && c && d
four false b c d = refl
four true false c d = refl
four true true false d = refl
four true true true false = refl
four true true true true = refl

four_zeros : (sides : List ℕ) → length sides ≡ 4 → pointwise eqb sides (0 ∷ 0 ∷ 0 ∷ 0 ∷ []) ≡ all_below (λ k. eqb (get_or sides k 0) 0) 4
unfolding all_below
four_zeros [] e = absurd (omega (arith, e))
four_zeros (a ∷ []) e = absurd (omega (arith, e))
four_zeros (a ∷ b ∷ []) e = absurd (omega (arith, e))
four_zeros (a ∷ b ∷ c ∷ []) e = absurd (omega (arith, e))
four_zeros (a ∷ b ∷ c ∷ d ∷ []) e = four (eqb a 0) (eqb b 0) (eqb c 0) (eqb d 0)
four_zeros (a ∷ b ∷ c ∷ d ∷ more ∷ rest) e = absurd (omega (arith, e))

pub returns : goal.returns
returns c =
    let full : length c.args.sides ≡ 4 = search rules in
    rw c.eq.ensures (four_zeros c.args.sides full)
