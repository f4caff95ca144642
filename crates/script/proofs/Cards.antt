-- Bounds of a card's parts: four suits of thirteen ranks.
use mathlib.Core.Bool.{Bool, true, false, cond, ◌&&◌, and-eq-true_iff}
use mathlib.Core.Path.{◌≡◌, refl}
use Prim.Native.Nat.{ℕ, ◌-◌, ◌≤◌}
use native.Mathlib.Omega.{arith}
use borrow.Author.Tests.{leb-true}
use lib.Dec.{leb, eqb}
use Rattle.lists.proofs.Picks.{cond_most}
use Rattle.script.specs.Cards.{rank_named, suit_named}

pub suit-most : (letter : ℕ) → suit_named letter ≤ 3
unfolding suit_named
suit-most letter = cond_most (eqb letter 98) (omega arith) (cond_most (eqb letter 99) (omega arith) (cond_most (eqb letter 100) (omega arith) (omega arith)))

pub rank_most : (letter : ℕ) → rank_named letter ≤ 12
unfolding rank_named
rank_most letter = go (leb 50 letter && leb letter 57) refl others
  where
    others : cond (eqb letter 84) 9 (cond (eqb letter 74) 10 (cond (eqb letter 81) 11 (cond (eqb letter 75) 12 0))) ≤ 12
    others = cond_most (eqb letter 84) (omega arith) (cond_most (eqb letter 74) (omega arith) (cond_most (eqb letter 81) (omega arith) (cond_most (eqb letter 75) (omega arith) (omega arith))))

    go : (b : Bool) {other : ℕ} → leb 50 letter && leb letter 57 ≡ b → other ≤ 12 → cond b (letter - 49) other ≤ 12
    go true e h = omega (arith, leb-true letter 57 ((and-eq-true_iff (leb 50 letter) (leb letter 57)).0 e).1)
    go false e h = h
