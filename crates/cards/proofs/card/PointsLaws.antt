-- Bounds on a card's points, for every byte: each is one test, computed over the table of thirteen.
use mathlib.Core.Path.{◌≡◌, refl}
use mathlib.Core.List.{List, [], ◌∷◌}
use mathlib.Core.Bool.{false}
use Prim.Native.Nat.{ℕ, zero, suc, ◌≤◌, ◌<◌}
use native.Mathlib.Nat.{le_of_suc-le-suc}
use native.Mathlib.Omega.{arith}
use lib.Dec.{leb, eqb}
use lib.ListN.{get_or}
use borrow.Author.Tests.{leb-true, eqb-false}
use Rattle.lists.specs.Tests.{all_of}
use Rattle.lists.proofs.Tests.{all-at}
use Rattle.cards.specs.Card.{rank_of, is_ace}
use Rattle.cards.specs.Points.{points_of, points_table}

rank_below : (card : ℕ) → rank_of card < 13
rank_below card = omega arith

pub points-most : (card : ℕ) → points_of card ≤ 10
unfolding points_of all_of
points-most card = leb-true _ _ (all-at (λ p. leb p 10) points_table (rank_of card) 0 refl (rank_below card))

pub points-least : (card : ℕ) → 1 ≤ points_of card
unfolding points_of all_of
points-least card = leb-true _ _ (all-at (λ p. leb 1 p) points_table (rank_of card) 0 refl (rank_below card))

ranks_above_ace : List ℕ
ranks_above_ace = 2 ∷ 3 ∷ 4 ∷ 5 ∷ 6 ∷ 7 ∷ 8 ∷ 9 ∷ 10 ∷ 10 ∷ 10 ∷ 10 ∷ []

no_ace : (rank : ℕ) → rank < 13 → eqb rank 0 ≡ false → 2 ≤ get_or points_table rank 0
unfolding all_of ranks_above_ace
no_ace zero h e = absurd (eqb-false 0 0 e refl)
no_ace (suc rank) h e = leb-true _ _ (all-at (λ p. leb 2 p) ranks_above_ace rank 0 refl (le_of_suc-le-suc h))

pub points_no_ace : (card : ℕ) → is_ace card ≡ false → 2 ≤ points_of card
unfolding points_of
points_no_ace card e = no_ace (rank_of card) (rank_below card) e
