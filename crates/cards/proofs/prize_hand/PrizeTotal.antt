-- A prize hand has a low sum of at least 21: three sevens, or at least one each of six, seven and eight. So a hand below 21 is none.
use mathlib.Core.Path.{◌≡◌, refl, sym}
use mathlib.Core.Bool.{Bool, true, false, ◌&&◌, ◌||◌, and-eq-true_iff, true≢false}
use mathlib.Core.List.{List, [], ◌∷◌}
use Prim.Native.Nat.{ℕ, ◌+◌, ◌*◌, ◌≤◌, ◌<◌}
use native.Mathlib.Omega.{arith}
use lib.Dec.{leb, eqb}
use lib.ListN.{length, get_or}
use borrow.Author.Tests.{leb-true, eqb-true, ne_eqb}
use Rattle.lists.specs.Sum.{sum_of, is_it}
use Rattle.lists.specs.Tests.{any_of, all_of}
use Rattle.lists.specs.Below.{all_below}
use Rattle.lists.proofs.Below.{all_below_lem}
use Rattle.cards.specs.Card.{suit_of, rank_of}
use Rattle.cards.specs.Points.{points_table, points_of}
use Rattle.cards.specs.Total.{low_sum, total}
use Rattle.cards.proofs.total.Bounds.{low_le_total}
use Rattle.cards.specs.PrizeHand.{has_rank, all_sevens, suited_six_seven_eight, is_prize_hand}

-- the points of six, seven and eight, for those ranks
points_for : (card : ℕ) → 6 * is_it 5 (rank_of card) + 7 * is_it 6 (rank_of card) + 8 * is_it 7 (rank_of card) ≤ points_of card
unfolding points_of all_below
points_for card =
    leb-true _ _ (all_below_lem (λ r. leb (6 * is_it 5 r + 7 * is_it 6 r + 8 * is_it 7 r) (get_or points_table r 0)) 13 (rank_of card) refl (omega arith))

-- how many cards of a rank
of_rank : ℕ → List ℕ → ℕ
of_rank r cards = sum_of (λ card. is_it r (rank_of card)) cards

low_sum_for : (cards : List ℕ) → 6 * of_rank 5 cards + 7 * of_rank 6 cards + 8 * of_rank 7 cards ≤ low_sum cards
unfolding of_rank sum_of
low_sum_for [] = omega arith
low_sum_for (card ∷ cards) = omega (arith, points_for card, low_sum_for cards)

some_of : (r : ℕ) (cards : List ℕ) → any_of (has_rank r) cards ≡ true → 1 ≤ of_rank r cards
unfolding of_rank any_of sum_of
some_of r [] e = absurd (true≢false (sym e))
some_of r (card ∷ cards) e = go (has_rank r card) refl (some_of r cards) e
  where
    go : (b : Bool) → has_rank r card ≡ b → (any_of (has_rank r) cards ≡ true → 1 ≤ of_rank r cards) → b || any_of (has_rank r) cards ≡ true → 1 ≤ of_rank r (card ∷ cards)
    go true here rec t = simp here (omega arith)
    go false here rec t = omega (arith, rec t)

all_of_lem : (r : ℕ) (cards : List ℕ) → all_of (has_rank r) cards ≡ true → of_rank r cards ≡ length cards
unfolding of_rank all_of sum_of
all_of_lem r [] e = refl
all_of_lem r (card ∷ cards) e =
    let (here, later) = (and-eq-true_iff (has_rank r card) (all_of (has_rank r) cards)).0 e in
    simp here (omega (arith, all_of_lem r cards later))

prize-low_sum : (cards : List ℕ) → is_prize_hand cards ≡ true → 21 ≤ low_sum cards
unfolding is_prize_hand all_sevens suited_six_seven_eight
prize-low_sum cards e = go (all_sevens cards) refl
  where
    three : length cards ≡ 3
    three = eqb-true (length cards) 3 ((and-eq-true_iff (eqb (length cards) 3) (all_sevens cards || suited_six_seven_eight cards)).0 e).0

    go : (b : Bool) → all_sevens cards ≡ b → 21 ≤ low_sum cards
    go true sevens = omega (arith, three, all_of_lem 6 cards sevens, low_sum_for cards)
    go false other =
        let suited = ((and-eq-true_iff (eqb (length cards) 3) (all_sevens cards || suited_six_seven_eight cards)).0 e).1 in
        let ranks = ((and-eq-true_iff (any_of (has_rank 5) cards && any_of (has_rank 6) cards && any_of (has_rank 7) cards) (all_of (λ card. eqb (suit_of card) (suit_of (get_or cards 0 0))) cards)).0 (simp other at suited)).0 in
        let (lower, eight) = (and-eq-true_iff (any_of (has_rank 5) cards && any_of (has_rank 6) cards) (any_of (has_rank 7) cards)).0 ranks in
        let (six, seven) = (and-eq-true_iff (any_of (has_rank 5) cards) (any_of (has_rank 6) cards)).0 lower in
        omega (arith, some_of 5 cards six, some_of 6 cards seven, some_of 7 cards eight, low_sum_for cards)

pub no_prize_below_21 : (cards : List ℕ) → total cards < 21 → is_prize_hand cards ≡ false
no_prize_below_21 cards below = go (is_prize_hand cards) refl
  where
    go : (b : Bool) → is_prize_hand cards ≡ b → is_prize_hand cards ≡ false
    go true e = absurd (omega (arith, prize-low_sum cards e, low_le_total cards))
    go false e = e

-- two cards are no prize hand
pub no_prize_of-two : (cards : List ℕ) → length cards ≡ 2 → is_prize_hand cards ≡ false
unfolding is_prize_hand
no_prize_of-two cards two = simp (ne_eqb (length cards) 3 (λ three. omega arith))
