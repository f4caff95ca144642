-- The cover is enough by the bounds of each hand's gain and prize; what the four hands take of it is worked out from the definitions.
use mathlib.Core.Path.{◌≡◌, refl}
use mathlib.Core.List.{[]}
use Prim.Native.Nat.{ℕ, ◌+◌, ◌*◌}
use native.Mathlib.Omega.{arith}
use Rattle.lists.specs.Sum.{sum_of}
use Rattle.lists.specs.Tests.{any_of, all_of}
use Rattle.cards.specs.Pair.{is_pair}
use Rattle.cards.specs.Points.{points_of}
use Rattle.cards.specs.Total.{total}
use Rattle.cards.specs.PrizeHand.{all_sevens, is_prize_hand}
use Rattle.options.specs.declared.Options.{Options}
use Rattle.rules.specs.SeatHand.{natural}
use Rattle.payment.specs.Wager.{wager}
use Rattle.payment.specs.Prize.{prize, most_prize}
use Rattle.payment.specs.HandPay.{hand_back, against_bank, hand_pay}
use Rattle.payment.specs.Insurance.{insurance_pay}
use Rattle.payment.specs.SidePay.{is_seven, same_suit, pair_odds, sevens_odds, more_odds, less_odds, side_odds, side_pay}
use Rattle.payment.specs.Bets.{bets}
use Rattle.payment.specs.CoverFits.{CoverFits, doubled, sevens, bust}
use Rattle.payment.proofs.Pays.{laid_of_lem, back_of_lem}
use Rattle.payment.proofs.cover.Bounds.{seat_cover_lem, sides-most}

module _ (o : Options) (S : ℕ) where
  -- each of the four lays twice the stake, wins as much and has the most that a prize can be
  back : (hand_pay o bust S doubled).back ≡ 2 * S + 2 * S
  unfolding hand_back against_bank natural wager total sum_of any_of points_of
  back = refl

  won : o.prize ≡ 1 → prize o S doubled ≡ most_prize S
  unfolding prize is_prize_hand all_sevens all_of wager
  won on = simp on (omega arith)

pub cover-fits : CoverFits
unfolding sum_of wager insurance_pay is_pair points_of is_seven same_suit pair_odds sevens_odds more_odds less_odds side_odds side_pay
cover-fits =
    record {
      enough = λ o bank b few insured.
          omega (
            arith,
            laid_of_lem o bank b,
            back_of_lem o bank b,
            seat_cover_lem o bank b.stake b.hands b.insurance few insured,
            sides-most b.first b.sides,
          );
      taken = λ o S on.
          omega (
            arith,
            laid_of_lem o bust (bets S 0 [] [] sevens),
            back_of_lem o bust (bets S 0 [] [] sevens),
            back o S,
            won o S on,
            sides-most [] [],
          );
      pair_wins = λ n. refl;
      sevens_win = λ n. refl;
      more_wins = λ n. refl;
      less_wins = λ n. refl;
    }
