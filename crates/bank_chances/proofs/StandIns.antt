-- A stand-in has the points of the cards for which it stands, so that a bank of stand-ins draws and ends as the bank does.
use mathlib.Core.Path.{◌≡◌, refl, sym, ◌∙◌, ap}
use mathlib.Core.Bool.{Bool}
use mathlib.Core.List.{List, [], ◌∷◌, ◌++◌, map}
use Prim.Native.Nat.{ℕ, ◌≤◌, ◌<◌, min}
use native.Mathlib.Decide.{dec_le}
use native.Mathlib.Omega.{arith}
use borrow.Author.Tests.{eqb-true, ne_eqb, le-leb}
use lib.Dec.{leb, eqb}
use lib.ListN.{get_or, length-map}
use Rattle.lists.specs.Sum.{sum_of}
use Rattle.lists.specs.Tests.{any_of}
use Rattle.lists.specs.Below.{all_below}
use Rattle.lists.proofs.Below.{all_below_lem}
use Rattle.cards.specs.Card.{rank_of, is_ace, is_ten_value}
use Rattle.cards.specs.Natural.{is_natural}
use Rattle.cards.specs.Points.{points_of, points_table}
use Rattle.cards.specs.Total.{low_sum, total}
use Rattle.payment.specs.Bank.{must_draw}
use Rattle.bank_chances.specs.Ending.{ending_of}
use Rattle.bank_chances.specs.Aids.Ways.{stand_in}

pub stand_in_below : (card : ℕ) → stand_in card < 10
stand_in_below card = omega arith

-- its rank is itself
rank-stand_in : (card : ℕ) → rank_of (stand_in card) ≡ stand_in card
rank-stand_in card = omega arith

pub stand_in_twice : (card : ℕ) → stand_in (stand_in card) ≡ stand_in card
stand_in_twice card = omega arith

-- points, by one test over the thirteen ranks
points_by_rank : (rank : ℕ) → rank < 13 → get_or points_table (min rank 9) 0 ≡ get_or points_table rank 0
unfolding all_below
points_by_rank rank h = eqb-true _ _ (all_below_lem (λ r. eqb (get_or points_table (min r 9) 0) (get_or points_table r 0)) 13 rank refl h)

points-stand_in : (card : ℕ) → points_of (stand_in card) ≡ points_of card
unfolding points_of
points-stand_in card = ap (λ (r : ℕ). get_or points_table r 0) (rank-stand_in card) ∙ points_by_rank (rank_of card) (omega arith)

ace-stand_in : (card : ℕ) → is_ace (stand_in card) ≡ is_ace card
ace-stand_in card = go (dec_le (rank_of card) 9)
  where
    go : Dec (rank_of card ≤ 9) → is_ace (stand_in card) ≡ is_ace card
    go (yes h) = let same : rank_of (stand_in card) ≡ rank_of card = omega arith in ap (λ (r : ℕ). eqb r 0) same
    go (no h) = ne_eqb (rank_of (stand_in card)) 0 (λ e. omega arith) ∙ sym (ne_eqb (rank_of card) 0 (λ e. omega arith))

ten-stand_in : (card : ℕ) → is_ten_value (stand_in card) ≡ is_ten_value card
ten-stand_in card = go (dec_le (rank_of card) 9)
  where
    go : Dec (rank_of card ≤ 9) → is_ten_value (stand_in card) ≡ is_ten_value card
    go (yes h) = let same : rank_of (stand_in card) ≡ rank_of card = omega arith in ap (λ (r : ℕ). leb 9 r) same
    go (no h) = le-leb 9 (rank_of (stand_in card)) (omega arith) ∙ sym (le-leb 9 (rank_of card) (omega arith))

-- the same of a list of cards
low_sums : (cards : List ℕ) → low_sum (map stand_in cards) ≡ low_sum cards
unfolding sum_of
low_sums [] = refl
low_sums (card ∷ cards) = omega (arith, points-stand_in card, low_sums cards)

anys : (test : ℕ → Bool) → ((card : ℕ) → test (stand_in card) ≡ test card) → (cards : List ℕ) → any_of test (map stand_in cards) ≡ any_of test cards
unfolding any_of
anys test same [] = refl
anys test same (card ∷ cards) = rw (same card, anys test same cards)

totals : (cards : List ℕ) → total (map stand_in cards) ≡ total cards
unfolding total
totals cards = rw (low_sums cards, anys is_ace ace-stand_in cards)

naturals : (cards : List ℕ) → is_natural (map stand_in cards) ≡ is_natural cards
unfolding is_natural
naturals cards = rw (length-map cards stand_in, anys is_ace ace-stand_in cards, anys is_ten_value ten-stand_in cards)

draws_like : (cards : List ℕ) → must_draw (map stand_in cards) ≡ must_draw cards
unfolding must_draw
draws_like cards = rw (totals cards)

ends_like : (cards : List ℕ) → ending_of (map stand_in cards) ≡ ending_of cards
unfolding ending_of
ends_like cards = rw (draws_like cards, naturals cards, totals cards)

-- two banks of the same points, card by card
module _ (bank likes : List ℕ) (alike : map stand_in bank ≡ map stand_in likes) where
  pub alike-draws : must_draw bank ≡ must_draw likes
  alike-draws = sym (draws_like bank) ∙ ap must_draw alike ∙ draws_like likes

  pub alike-ends : ending_of bank ≡ ending_of likes
  alike-ends = sym (ends_like bank) ∙ ap ending_of alike ∙ ends_like likes

map_snoc : (cards : List ℕ) (card : ℕ) → map stand_in (cards ++ (card ∷ [])) ≡ map stand_in cards ++ (stand_in card ∷ [])
map_snoc [] card = refl
map_snoc (c ∷ cards) card = ap (λ (xs : List ℕ). stand_in c ∷ xs) (map_snoc cards card)

-- one card more, and its stand-in
pub alike_more : (bank likes : List ℕ) (card : ℕ) → map stand_in bank ≡ map stand_in likes → map stand_in (bank ++ (card ∷ [])) ≡ map stand_in (likes ++ (stand_in card ∷ []))
alike_more bank likes card alike = rw (map_snoc bank card, map_snoc likes (stand_in card), alike, stand_in_twice card)
