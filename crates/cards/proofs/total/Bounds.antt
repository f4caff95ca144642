-- How number of cards, low sum and total of a hand bound one another, and that there is room for one card more.
use mathlib.Core.Path.{◌≡◌, refl}
use mathlib.Core.Bool.{Bool, true, false, cond, ◌&&◌, or-true}
use mathlib.Core.List.{List, [], ◌∷◌, ◌++◌}
use Prim.Native.Nat.{ℕ, ◌+◌, ◌*◌, ◌≤◌, ◌<◌}
use native.Mathlib.Decide.{dec_le}
use native.Mathlib.Omega.{arith}
use lib.Dec.{leb}
use lib.ListN.{length, length-append}
use borrow.Author.Tests.{lt-ltb, le-ltb, le-leb, ltb-true}
use Rattle.lists.proofs.Sums.{sum-most, sum-least, sum-least-none, sum_snoc}
use Rattle.cards.specs.Card.{is_ace}
use Rattle.cards.specs.Points.{points_of}
use Rattle.cards.proofs.card.PointsLaws.{points-least, points-most, points_no_ace}
use Rattle.cards.specs.Length.{could_be_played}
use Rattle.cards.specs.Total.{low_sum, has_ace, total}

pub low_sum-least : (cards : List ℕ) → length cards ≤ low_sum cards
low_sum-least cards = omega (arith, sum-least points_of 1 points-least cards)

pub low_sum_no_ace : (cards : List ℕ) → has_ace cards ≡ false → 2 * length cards ≤ low_sum cards
low_sum_no_ace cards none = sum-least-none points_of 2 is_ace points_no_ace cards none

-- ten more or none
raised : (b : Bool) (low : ℕ) → (low ≤ cond b (low + 10) low) × (cond b (low + 10) low ≤ low + 10)
raised true low = omega arith
raised false low = omega arith

pub low_le_total : (cards : List ℕ) → low_sum cards ≤ total cards
unfolding total
low_le_total cards = (raised (has_ace cards && leb (low_sum cards + 10) 21) (low_sum cards)).0

pub total_le : (cards : List ℕ) → total cards ≤ low_sum cards + 10
unfolding total
total_le cards = (raised (has_ace cards && leb (low_sum cards + 10) 21) (low_sum cards)).1

-- ten points a card, and ten more
pub total-most : (cards : List ℕ) → total cards ≤ 10 * length cards + 10
total-most cards = omega (arith, total_le cards, sum-most points_of 10 points-most cards)

pub soft_total : (cards : List ℕ) → has_ace cards ≡ true → low_sum cards + 10 ≤ 21 → total cards ≡ low_sum cards + 10
unfolding total
soft_total cards ace fits = simp (ace, le-leb (low_sum cards + 10) 21 fits)

-- twelve cards or more that could have been played are not all aces
played_long : (cards : List ℕ) → could_be_played cards ≡ true → 12 ≤ length cards → length cards < low_sum cards
unfolding could_be_played
played_long cards played long = ltb-true (length cards) (low_sum cards) (simp (le-ltb (length cards) 12 long) at played)

long_played : (cards : List ℕ) → (12 ≤ length cards → length cards < low_sum cards) → could_be_played cards ≡ true
unfolding could_be_played
long_played cards above = go (dec_le 12 (length cards))
  where
    go : Dec (12 ≤ length cards) → could_be_played cards ≡ true
    go (yes long) = simp (lt-ltb (length cards) (low_sum cards) (above long), or-true)
    go (no short) = simp (lt-ltb (length cards) 12 (omega arith))

-- a hand below 21 that could have been played has fewer than twenty cards
pub room_below_21 : (cards : List ℕ) → could_be_played cards ≡ true → length cards ≤ 20 → total cards < 21 → length cards < 20
room_below_21 cards played most below = go (dec_le 12 (length cards))
  where
    go : Dec (12 ≤ length cards) → length cards < 20
    go (yes long) = omega (arith, played_long cards played long, low_le_total cards)
    go (no short) = omega arith

-- eleven cards below 21 are not all aces
eleven : (cards : List ℕ) (ace : Bool) → has_ace cards ≡ ace → length cards ≡ 11 → total cards < 21 → 11 < low_sum cards
eleven cards true ace count below = go (dec_le (low_sum cards + 10) 21)
  where
    go : Dec (low_sum cards + 10 ≤ 21) → 11 < low_sum cards
    go (yes fits) = omega (arith, soft_total cards ace fits, low_sum-least cards)
    go (no large) = omega arith
eleven cards false none count below = omega (arith, low_sum_no_ace cards none)

-- one card more on a hand below 21 leaves it a hand that could have been played
pub played_more : (cards : List ℕ) (card : ℕ) → could_be_played cards ≡ true → total cards < 21 → could_be_played (cards ++ (card ∷ [])) ≡ true
played_more cards card played below = long_played (cards ++ (card ∷ [])) (λ long. simp (length-append, sum_snoc) (go (dec_le 12 (length cards)) (simp length-append at long)))
  where
    go : Dec (12 ≤ length cards) → 12 ≤ length cards + 1 → length cards + 1 < low_sum cards + points_of card
    go (yes longer) long = omega (arith, played_long cards played longer, points-least card)
    go (no last) long = omega (arith, eleven cards (has_ace cards) refl (omega arith) below, points-least card)

-- a bank that must draw has fewer than twenty cards
pub room_for_bank : (cards : List ℕ) → total cards ≤ 16 → length cards < 20
room_for_bank cards draws = omega (arith, low_sum-least cards, low_le_total cards)
