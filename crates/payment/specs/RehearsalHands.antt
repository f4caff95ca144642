-- Document 01, "The rehearsal hands", proved together as one table over the definitions. The stake S is 20.
use Rattle.std.specs.Prelude.{◌≡◌, false, List, [], ◌∷◌, ◌++◌, ℕ, ℤ, pos, neg_ℤ, length, replicate}
use Rattle.cards.specs.Total.{total}
use Rattle.cards.specs.Pair.{is_pair}
use Rattle.options.specs.declared.Options.{Options}
use Rattle.rules.specs.SeatHand.{Played, natural, dealt, split, split_aces, not_ended, by_double, by_surrender, by_five}
use Rattle.payment.specs.Bank.{must_draw, score_of}
use Rattle.payment.specs.Pay.{net}
use Rattle.payment.specs.HandPay.{hand_pay}
use Rattle.payment.specs.Insurance.{insurance_pay}

-- Cards of the suit 0, by rank.
abbrev ace : ℕ
ace = 0

abbrev two : ℕ
two = 1

abbrev five : ℕ
five = 4

abbrev six : ℕ
six = 5

abbrev nine : ℕ
nine = 8

abbrev ten : ℕ
ten = 9

abbrev jack : ℕ
jack = 10

abbrev queen : ℕ
queen = 11

abbrev king : ℕ
king = 12

-- The marked session's options, with the loss limited on a bank natural (1) or not (0).
abbrev house : ℕ → Options
house limit =
    record {
      seats = 6;
      decks = 1;
      first = 1;
      later = 0;
      hands = 4;
      aces = 0;
      double = 1;
      limit = limit;
      insurance = 1;
      five = 0;
      prize = 1;
      device = 1;
      decider = 1;
      cut = 0;
      smallest = 2;
      largest = 100;
    }

-- A hand as the rules see it.
abbrev hand : List ℕ → ℕ → ℕ → Played
hand cards origin ended = record { cards = cards; origin = origin; ended = ended }

-- The net of a hand of stake 20 against the bank's cards.
abbrev net_of : ℕ → List ℕ → Played → ℤ
net_of limit bank h = net (hand_pay (house limit) (score_of bank) 20 h)

-- Ten aces, a two, nine aces.
abbrev longest : List ℕ
longest = replicate 10 ace ++ (two ∷ []) ++ replicate 9 ace

pub record RehearsalHands : Type 0 where
  -- A A totals 12.
  pub ace_ace : total (ace ∷ ace ∷ []) ≡ 12
  -- A 9 A: 21.
  pub ace_nine_ace : total (ace ∷ nine ∷ ace ∷ []) ≡ 21
  -- Ten aces, a 2, nine aces: 21, twenty cards.
  pub longest_total : total longest ≡ 21
  pub longest_length : length longest ≡ 20
  -- J Q: no pair.
  pub jack_queen : is_pair (jack ∷ queen ∷ []) ≡ false
  -- A K after a split: 21, no natural; after a split of aces neither.
  pub split_total : total (ace ∷ king ∷ []) ≡ 21
  pub split_no_natural : natural (hand (ace ∷ king ∷ []) split not_ended) ≡ false
  pub aces_no_natural : natural (hand (ace ∷ king ∷ []) split_aces not_ended) ≡ false
  -- Bank A 6: stands on 17.
  pub bank_total : total (ace ∷ six ∷ []) ≡ 17
  pub bank_stands : must_draw (ace ∷ six ∷ []) ≡ false
  -- Natural against a bank's three-card 21: +30, limited or not.
  pub natural_wins : (limit : ℕ) → net_of limit (ten ∷ six ∷ five ∷ []) (hand (ace ∷ king ∷ []) dealt not_ended) ≡ pos 30
  -- Doubled against a bank natural: −20 limited, −40 not.
  pub doubled_limited : net_of 1 (ace ∷ king ∷ []) (hand (five ∷ six ∷ nine ∷ []) dealt by_double) ≡ neg_ℤ (pos 20)
  pub doubled_whole : net_of 0 (ace ∷ king ∷ []) (hand (five ∷ six ∷ nine ∷ []) dealt by_double) ≡ neg_ℤ (pos 40)
  -- Surrender: −10, whatever the bank has.
  pub surrendered : (limit : ℕ) (bank : List ℕ) → net_of limit bank (hand (ten ∷ six ∷ []) dealt by_surrender) ≡ neg_ℤ (pos 10)
  -- Five: +10, whatever the bank has.
  pub five_cards : (limit : ℕ) (bank : List ℕ) → net_of limit bank (hand (two ∷ two ∷ two ∷ two ∷ two ∷ []) dealt by_five) ≡ pos 10
  -- Insurance 20: +40.
  pub insured : net (insurance_pay (score_of (ace ∷ king ∷ [])) 20) ≡ pos 40
