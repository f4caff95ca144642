-- Every rehearsal hand comes to what document 01 says: each line of the table is computed from the definitions.
use mathlib.Core.Path.{refl}
use Rattle.lists.specs.Sum.{sum_of}
use Rattle.lists.specs.Tests.{any_of}
use Rattle.cards.specs.Points.{points_of}
use Rattle.cards.specs.Total.{total}
use Rattle.cards.specs.Natural.{is_natural}
use Rattle.cards.specs.Pair.{is_pair}
use Rattle.rules.specs.SeatHand.{natural}
use Rattle.payment.specs.Bank.{must_draw}
use Rattle.payment.specs.Wager.{wager}
use Rattle.payment.specs.HandPay.{hand_back, against_bank, against_natural, by_totals}
use Rattle.payment.specs.Insurance.{insurance_pay}
use Rattle.payment.specs.RehearsalHands.{RehearsalHands}

pub rehearsal_hands : RehearsalHands
unfolding sum_of any_of points_of total is_natural is_pair natural must_draw wager hand_back against_bank against_natural by_totals insurance_pay
rehearsal_hands =
    record {
      ace_ace = refl;
      ace_nine_ace = refl;
      longest_total = refl;
      longest_length = refl;
      jack_queen = refl;
      split_total = refl;
      split_no_natural = refl;
      aces_no_natural = refl;
      bank_total = refl;
      bank_stands = refl;
      natural_wins = λ limit. refl;
      doubled_limited = refl;
      doubled_whole = refl;
      surrendered = λ limit bank. refl;
      five_cards = λ limit bank. refl;
      insured = refl;
    }
