-- A staked seat after both passes: one hand of the two cards, which are its first cards, not ended, with the stake as its wager and no prize.
use mathlib.Core.Path.{◌≡◌, refl, sym, ◌∙◌, ap}
use mathlib.Core.Bool.{Bool, true, false, cond, and-false, true≢false}
use mathlib.Core.List.{List, [], ◌∷◌, map}
use Prim.Native.Nat.{ℕ, ◌+◌, ◌-◌, ◌≤◌, ◌<◌}
use native.Mathlib.Decide.{dec_le}
use native.Mathlib.Omega.{arith}
use lib.Dec.{eqb}
use lib.ListN.{length, take, get_or, set, length-set}
use lib.Seq.{get_or-set_same, set-set, take-suc-set}
use Rattle.lists.specs.Sum.{sum_of}
use Rattle.lists.specs.Flat.{flat}
use Rattle.lists.proofs.Places.{holds-set}
use Rattle.cards.specs.Hand.{empty_hand, with_card}
use Rattle.cards.specs.Length.{could_be_played}
use Rattle.cards.specs.PrizeHand.{is_prize_hand}
use Rattle.options.specs.declared.Options.{Options}
use Rattle.rules.specs.declared.seat_hand.SeatHand.{SeatHand}
use Rattle.rules.specs.declared.seat_hand.SeatHands.{SeatHands}
use Rattle.rules.specs.SeatHand.{played_of, dealt, not_ended}
use Rattle.payment.specs.Wager.{wager}
use Rattle.payment.specs.Prize.{prize}
use Rattle.payment.specs.Bets.{all_sides}
use Rattle.table.specs.declared.Money.{Money}
use Rattle.table.specs.declared.Seat.{Seat}
use Rattle.table.specs.Guest.{missing_money}
use Rattle.table.specs.Seat.{make_seat, missing_place, with_money, guest_at, stake, insurance, sides, hands, seat_cards, first_cards, laid, prizes}
use Rattle.table.specs.Shape.{ShapedSeat}
use Rattle.table.specs.Broken.{sound_origin, sound_ending}
use Rattle.table.specs.Aids.Sound.{SoundSeat, SoundGuest, SoundHand}
use Rattle.table.proofs.Guests.{guest-seated, guest-hands}
use Rattle.history.specs.Hands.{played}
use Rattle.deal_spec.specs.Pass.{first_card, second_card}

-- the hand, a seat with one hand and these first cards, and the seat with both cards
abbrev pub two_cards : ℕ → ℕ → SeatHand
two_cards a b = record { hand = with_card (with_card empty_hand a) b; origin = dealt; ended = not_ended }

abbrev only : Seat → SeatHand → List ℕ → Seat
only s h first = make_seat s.money s.others (record { places = set s.hands.places 0 h; many = 1 }) first

abbrev pub dealt_seat : Seat → ℕ → ℕ → Seat
dealt_seat s a b = only s (two_cards a b) (set (set s.first 0 a) 1 b)

-- a seat's hand where it has but one
only-hand : (s : Seat) (h : SeatHand) (first : List ℕ) → length s.hands.places ≡ 4 → hands (only s h first) ≡ played_of h ∷ []
only-hand s h first four = ap (map played_of) (take-suc-set s.hands.places 0 h (omega arith))

-- each guest of the seat has that hand
pub dealt-guest : (s : Seat) (a b p : ℕ) → guest_at (dealt_seat s a b) p ≡ dealt_seat (guest_at s p) a b
unfolding guest_at
dealt-guest s a b p = go (eqb p 0)
  where
    m : Money
    m = get_or s.others (p - 1) missing_money

    go : (seated : Bool) → cond seated (dealt_seat s a b) (with_money (dealt_seat s a b) m) ≡ dealt_seat (cond seated s (with_money s m)) a b
    go true = refl
    go false = refl

-- the two cards in front
two-first : (xs : List ℕ) (a b : ℕ) → 2 ≤ length xs → take 2 (set (set xs 0 a) 1 b) ≡ a ∷ b ∷ []
two-first [] a b h = absurd (omega arith)
two-first (x ∷ []) a b h = absurd (omega arith)
two-first (x ∷ y ∷ xs) a b h = refl

module _ (s : Seat) (four : length s.hands.places ≡ 4) (a b : ℕ) where
  -- the second card goes to the first one's hand
  pub both-cards : second_card (first_card s a) b ≡ dealt_seat s a b
  both-cards =
      let opened : SeatHand = record { hand = with_card empty_hand a; origin = dealt; ended = not_ended } in
      rw (get_or-set_same s.hands.places 0 opened missing_place (omega arith), set-set)

  pub dealt-hands : hands (dealt_seat s a b) ≡ played (a ∷ b ∷ []) dealt not_ended ∷ []
  unfolding with_card
  dealt-hands = only-hand s (two_cards a b) (set (set s.first 0 a) 1 b) four

  pub dealt-first : length s.first ≡ 3 → first_cards (dealt_seat s a b) ≡ a ∷ b ∷ []
  dealt-first three = rw dealt-hands (two-first s.first a b (omega arith))

  pub first_cards_lem : (w : ℕ → ℕ) → sum_of w (seat_cards (first_card s a)) ≡ w a
  unfolding with_card flat sum_of
  first_cards_lem w = rw (only-hand s (record { hand = with_card empty_hand a; origin = dealt; ended = not_ended }) (set s.first 0 a) four) (omega arith)

  dealt-cards : (w : ℕ → ℕ) → sum_of w (seat_cards (dealt_seat s a b)) ≡ w a + w b
  unfolding flat sum_of
  dealt-cards w = rw dealt-hands (omega arith)

  pub second_cards : (w : ℕ → ℕ) → sum_of w (seat_cards (second_card (first_card s a) b)) ≡ sum_of w (seat_cards (first_card s a)) + w b
  second_cards w = omega (arith, ap (λ (x : Seat). sum_of w (seat_cards x)) both-cards, dealt-cards w, first_cards_lem w)

  pub dealt-laid : laid (dealt_seat s a b) ≡ stake s + insurance s + all_sides (sides s)
  unfolding laid sum_of wager
  dealt-laid = rw dealt-hands (omega arith)

  pub dealt-prizes : (o : Options) → prizes o (dealt_seat s a b) ≡ 0
  unfolding prizes sum_of prize is_prize_hand
  dealt-prizes o = rw dealt-hands (simp and-false)

  dealt-hand : (o : Options) (up : ℕ) → SoundHand o up 1 (two_cards a b)
  unfolding with_card could_be_played sound_origin sound_ending
  dealt-hand o up = record { two_cards_lem = omega arith; twenty_cards = omega arith; played = refl; origin = refl; ended = refl }

  pub dealt_shaped : ShapedSeat s → ShapedSeat (dealt_seat s a b)
  unfolding with_card
  dealt_shaped shaped =
      record {
        four_places = length-set s.hands.places 0 (two_cards a b) ∙ four;
        two_others = shaped.two_others;
        four_sides = λ p h. ap (λ (x : Seat). length (sides x)) (dealt-guest s a b p) ∙ shaped.four_sides p h;
        three_first = length-set (set s.first 0 a) 1 b ∙ length-set s.first 0 a ∙ shaped.three_first;
        twenty_cards = λ p h. holds-set (λ n x. length x.hand.cards ≡ 20) s.hands.places 0 p (two_cards a b) missing_place (omega arith) refl (shaped.twenty_cards p h);
      }

  -- a guest is sound, who was so before the deal, staked or not
  guest-sound : (o : Options) (before up i : ℕ) → i < o.seats → SoundGuest o false before i s → SoundGuest o true up i (dealt_seat s a b)
  guest-sound o before up i within f =
      record {
        beyond = λ h. absurd (omega arith);
        stake_fits = f.stake_fits;
        insured = λ h. absurd (true≢false (sym (f.insured h).in_round_lem));
        sides_fit = f.sides_fit;
        prizes_back = omega (arith, dealt-prizes o);
      }

-- and so is a seat with a stake
module _ (s : Seat) (four : length s.hands.places ≡ 4) (a b : ℕ) where
  guests-sound : (o : Options) (before up i : ℕ) → 0 < stake s → SoundSeat o false before i s → (p : ℕ) → p < 3 → SoundGuest o true up i (guest_at (dealt_seat s a b) p)
  guests-sound o before up i staked f p h =
      rw (dealt-guest s a b p)
      (guest-sound (guest_at s p) (ap (λ (x : SeatHands). length x.places) (guest-hands s p) ∙ four) a b o before up i (within (dec_le o.seats i)) (f.guests p h))
    where
      within : Dec (o.seats ≤ i) → i < o.seats
      within (yes far) = absurd (omega (arith, ((f.guests 0 (omega arith)).beyond far).no_bets.no_stake_lem, ap stake (guest-seated s)))
      within (no near) = omega arith

  pub dealt-sound : (o : Options) (before up i : ℕ) → 2 ≤ o.hands → 0 < stake s → SoundSeat o false before i s → SoundSeat o true up i (dealt_seat s a b)
  dealt-sound o before up i many staked f =
      record {
        guests = guests-sound o before up i staked f;
        seated_first_lem = λ p h none. absurd (omega arith);
        waiting = λ none. absurd (omega arith);
        playing = λ h. record {
          in_round_lem = refl;
          staked = staked;
          within = omega arith;
          each = λ p l k. let here : p ≡ 0 = omega arith in rw (here, get_or-set_same s.hands.places 0 (two_cards a b) missing_place (omega arith)) (dealt-hand s four a b o up);
        };
      }
