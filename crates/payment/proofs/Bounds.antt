-- What a wager and a seat's prizes come to at most.
use mathlib.Core.Path.{◌≡◌}
use mathlib.Core.Bool.{false, ◌&&◌, and-false}
use mathlib.Core.List.{List}
use Prim.Native.Nat.{ℕ, ◌*◌, ◌≤◌}
use native.Mathlib.Nat.{mul-le-mul_left}
use native.Mathlib.Omega.{arith}
use lib.Dec.{eqb}
use lib.ListN.{length}
use borrow.Author.Tests.{eq-eqb, ne_eqb}
use Rattle.lists.specs.Sum.{sum_of}
use Rattle.lists.proofs.Picks.{cond_most, cond_least}
use Rattle.lists.proofs.Sums.{sum-most}
use Rattle.cards.specs.PrizeHand.{is_prize_hand}
use Rattle.options.specs.declared.Options.{Options}
use Rattle.rules.specs.SeatHand.{Played, by_double}
use Rattle.payment.specs.Wager.{wager}
use Rattle.payment.specs.Prize.{prize, most_prize}

-- the wager is the stake or twice the stake
pub wager_bounds : (S : ℕ) (h : Played) → (S ≤ wager S h) × (wager S h ≤ 2 * S)
unfolding wager
wager_bounds S h = (cond_least (eqb h.ended by_double) (omega arith) (omega arith), cond_most (eqb h.ended by_double) (omega arith) (omega arith))

-- which of the two, by how the hand ended
pub wager_single : (S : ℕ) (h : Played) → (h.ended ≡ by_double → ⊥) → wager S h ≡ S
unfolding wager
wager_single S h other = simp (ne_eqb h.ended by_double other)

pub wager-double : (S : ℕ) (h : Played) → h.ended ≡ by_double → wager S h ≡ 2 * S
unfolding wager
wager-double S h doubled = simp (eq-eqb h.ended by_double doubled)

module _ (o : Options) (S : ℕ) where
  pub prize_most : (h : Played) → prize o S h ≤ most_prize S
  unfolding prize
  prize_most h = cond_most (eqb o.prize 1 && is_prize_hand h.cards) (omega (arith, wager_bounds S h)) (omega arith)

  pub prize-none : (h : Played) → is_prize_hand h.cards ≡ false → prize o S h ≡ 0
  unfolding prize
  prize-none h none = simp (none, and-false)

  -- a prize is of the cards and the wager alone
  pub prize-same : (h g : Played) → h.cards ≡ g.cards → wager S h ≡ wager S g → prize o S h ≡ prize o S g
  unfolding prize
  prize-same h g same laid = simp (same, laid)

  pub seat-prizes : (hands : List Played) → length hands ≤ 4 → sum_of (prize o S) hands ≤ 4 * most_prize S
  seat-prizes hands few = omega (arith, mul-le-mul_left (most_prize S) few, sum-most (prize o S) (most_prize S) prize_most hands)
