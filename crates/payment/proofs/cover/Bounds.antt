-- What a hand and a seat with its prizes can take at most: the reason for the cover.
use mathlib.Core.Path.{◌≡◌, refl}
use mathlib.Core.Bool.{Bool, true, false, ◌&&◌}
use mathlib.Core.List.{List}
use Prim.Native.Nat.{ℕ, ◌+◌, ◌*◌, ◌≤◌}
use native.Mathlib.Nat.{le_refl, mul-le-mul_left}
use native.Mathlib.Omega.{arith}
use lib.Dec.{ltb, eqb}
use lib.ListN.{length, get_or, take}
use Rattle.cards.specs.Pair.{is_pair}
use Rattle.cards.specs.Total.{total, is_bust, low_sum}
use Rattle.lists.specs.Sum.{sum_of}
use Rattle.lists.proofs.Picks.{cond_most}
use Rattle.lists.proofs.Sums.{sum_above}
use Rattle.options.specs.declared.Options.{Options}
use Rattle.payment.specs.declared.bank.Score.{Score}
use Rattle.rules.specs.SeatHand.{Played, natural, by_surrender, by_even, by_five}
use Rattle.payment.specs.Wager.{wager}
use Rattle.payment.specs.HandPay.{by_totals, against_natural, against_bank, hand_back, hand_pay}
use Rattle.payment.specs.Insurance.{insurance_pay}
use Rattle.payment.specs.Prize.{prize}
use Rattle.payment.proofs.Bounds.{wager_bounds, seat-prizes}
use Rattle.payment.specs.SidePay.{pair_odds, is_seven, same_suit, sevens_odds, more_odds, less_odds, side_odds, side_pay}
use Rattle.payment.specs.Bets.{side, all_sides}
use Rattle.payment.specs.Cover.{cover, side_cover}
use Rattle.payment.proofs.Pays.{sides_part}

totals_most : (W mine bank : ℕ) → by_totals W mine bank ≤ W + W
unfolding by_totals
totals_most W mine bank = cond_most (ltb bank mine) (omega arith) (cond_most (eqb mine bank) (omega arith) (omega arith))

module _ (o : Options) (bank : Score) (S W : ℕ) (h : Played) where
  natural-most : against_natural o S W h ≤ W
  unfolding against_natural
  natural-most = omega arith

  bank-most : W ≤ 2 * S → against_bank o bank S W h ≤ W + 2 * S
  unfolding against_bank
  bank-most w =
      cond_most (natural h) (cond_most bank.natural (omega arith) (omega arith))
      (cond_most bank.natural (omega (arith, natural-most))
      (cond_most (ltb 21 bank.total) (omega arith)
      (omega (arith, totals_most W (total h.cards) bank.total))))

  bank-natural-most : bank.natural ≡ true → against_bank o bank S W h ≤ W
  unfolding against_bank
  bank-natural-most e = simp e (cond_most (natural h) (omega arith) natural-most)

  -- no rule before the bank pays more than the stake
  back_most : (k : ℕ) → S ≤ k → against_bank o bank S W h ≤ W + k → hand_back o bank S W h ≤ W + k
  unfolding hand_back
  back_most k s most =
      cond_most (eqb h.ended by_surrender) (omega arith)
      (cond_most (eqb h.ended by_even) (omega arith)
      (cond_most (eqb h.ended by_five) (omega arith)
      (cond_most (is_bust h.cards) (omega arith) most)))

module _ (o : Options) (bank : Score) (S : ℕ) where
  -- a hand gains at most twice the stake
  pub gain_most : (h : Played) → hand_back o bank S (wager S h) h ≤ wager S h + 2 * S
  gain_most h = back_most o bank S (wager S h) h (2 * S) (omega arith) (bank-most o bank S (wager S h) h (wager_bounds S h).1)

  -- against a bank natural it gains at most the stake
  pub gain_against_natural : (h : Played) → bank.natural ≡ true → hand_back o bank S (wager S h) h ≤ wager S h + S
  gain_against_natural h e = back_most o bank S (wager S h) h S (le_refl S) (omega (arith, bank-natural-most o bank S (wager S h) h e))

  seat-most : (hands : List Played) (k : ℕ) → length hands ≤ 4 → ((h : Played) → hand_back o bank S (wager S h) h ≤ wager S h + k) → sum_of (λ h. (hand_pay o bank S h).back) hands ≤ sum_of (λ h. (hand_pay o bank S h).laid) hands + 4 * k
  seat-most hands k few most = omega (arith, mul-le-mul_left k few, sum_above (λ h. (hand_pay o bank S h).back) (λ h. (hand_pay o bank S h).laid) k most hands)

  -- an insurance is paid on a bank natural alone, where no hand gains more than the stake
  pub seat_gain : (hands : List Played) (I : ℕ) → length hands ≤ 4 → I ≤ S → sum_of (λ h. (hand_pay o bank S h).back) hands + (insurance_pay bank I).back ≤ sum_of (λ h. (hand_pay o bank S h).laid) hands + I + 8 * S
  unfolding insurance_pay
  seat_gain hands I few most = go bank.natural refl
    where
      go : (b : Bool) → bank.natural ≡ b → sum_of (λ h. (hand_pay o bank S h).back) hands + (insurance_pay bank I).back ≤ sum_of (λ h. (hand_pay o bank S h).laid) hands + I + 8 * S
      go true e = simp e (omega (arith, seat-most hands S few (λ h. gain_against_natural h e)))
      go false e = simp e (omega (arith, seat-most hands (2 * S) few gain_most))

-- a side stake wins at most its cover
odds_most : (k most n : ℕ) (first : List ℕ) → side_odds k first ≤ most → (side_pay k n first).back ≤ n + most * n
unfolding side_pay
odds_most k most n first fits = cond_most (ltb 0 (side_odds k first)) (omega (arith, mul-le-mul_left n fits)) (omega arith)

module _ (first : List ℕ) where
  pair-most : side_odds 1 first ≤ 11
  unfolding side_odds pair_odds
  pair-most = cond_most (is_pair (take 2 first)) (omega arith) (omega arith)

  sevens-most : side_odds 2 first ≤ 5000
  unfolding side_odds sevens_odds
  sevens-most =
      cond_most (is_pair (take 2 first) && is_seven (get_or first 0 0))
      (cond_most (eqb (length first) 3 && is_seven (get_or first 2 0))
      (cond_most (same_suit (get_or first 0 0) (get_or first 1 0) && same_suit (get_or first 0 0) (get_or first 2 0)) (omega arith) (omega arith))
      (cond_most (same_suit (get_or first 0 0) (get_or first 1 0)) (omega arith) (omega arith)))
      (omega arith)

  more-most : side_odds 3 first ≤ 1
  unfolding side_odds more_odds
  more-most = cond_most (ltb 13 (low_sum (take 2 first))) (omega arith) (omega arith)

  less-most : side_odds 4 first ≤ 1
  unfolding side_odds less_odds
  less-most = cond_most (ltb (low_sum (take 2 first)) 13) (omega arith) (omega arith)

  pub sides-most : (sides : List ℕ) → sides_part (λ p. p.back) sides first ≤ all_sides sides + side_cover sides
  sides-most sides =
      omega (
        arith,
        odds_most 1 11 (side sides 1) first pair-most,
        odds_most 2 5000 (side sides 2) first sevens-most,
        odds_most 3 1 (side sides 3) first more-most,
        odds_most 4 1 (side sides 4) first less-most,
      )

-- what a seat can take from the tray in one round is at most its cover
pub seat_cover_lem : (o : Options) (bank : Score) (S : ℕ) (hands : List Played) (I : ℕ) → length hands ≤ 4 → I ≤ S → sum_of (λ h. (hand_pay o bank S h).back) hands + (insurance_pay bank I).back + sum_of (prize o S) hands ≤ sum_of (λ h. (hand_pay o bank S h).laid) hands + I + cover S
seat_cover_lem o bank S hands I few most = omega (arith, seat_gain o bank S hands I few most, seat-prizes o S hands few)
