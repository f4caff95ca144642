-- A seat's hands, and the seat with another hand in a place or with two hands for one: its views and sums.
use mathlib.Core.Path.{◌≡◌, refl, ◌∙◌, ap}
use mathlib.Core.Bool.{false}
use mathlib.Core.List.{List, map}
use Prim.Native.Nat.{ℕ, zero, suc, ◌+◌, ◌≤◌, ◌<◌}
use native.Mathlib.Decide.{dec_le}
use lib.Dec.{eqb}
use native.Mathlib.Numerals.{add-one}
use native.Mathlib.Omega.{arith}
use lib.ListN.{length, take, get_or, set, length-set}
use lib.Seq.{take-set-lt, take-take, length-take-le, get_or-take}
use borrow.Author.Tests.{ne_eqb}
use Rattle.lists.specs.Sum.{sum_of}
use Rattle.lists.proofs.Sums.{sum-set, sum-flat}
use Rattle.lists.proofs.Places.{map-set, holds-set}
use Rattle.lists.proofs.Inserts.{two-for, take-two_for, length-two_for, sum-two_for, holds-two_for, map-two_for}
use Rattle.options.specs.declared.Options.{Options}
use Rattle.rules.specs.declared.seat_hand.SeatHand.{SeatHand}
use Rattle.rules.specs.declared.seat_hand.SeatHands.{SeatHands}
use Rattle.rules.specs.SeatHand.{Played, played_of, hands_of}
use Rattle.rules.proofs.seat_hand.Places.{many_hands, hand_at}
use Rattle.payment.specs.Wager.{wager}
use Rattle.payment.specs.Prize.{prize}
use Rattle.payment.specs.Bets.{all_sides}
use Rattle.table.specs.declared.Money.{Money}
use Rattle.table.specs.declared.Seat.{Seat}
use Rattle.table.specs.Seat.{make_seat, missing_place, guest_at, stake, insurance, sides, hands, seat_cards, laid, prizes}
use Rattle.table.specs.Shape.{ShapedSeat}
use Rattle.table.specs.Broken.{sound_origin, sound_surrender, sound_ending}
use Rattle.table.specs.Aids.Sound.{SoundHand}
use Rattle.table.proofs.Guests.{guest-hands, guest_money}

-- what a guest laid over the hands, once the seat has one, and the guest's prizes
pub laid_playing : (s : Seat) → length s.hands.places ≡ 4 → 0 < s.hands.many → laid s ≡ sum_of (wager (stake s)) (hands s) + insurance s + all_sides (sides s)
unfolding laid
laid_playing s four some = simp (ne_eqb (length (hands s)) 0 (λ none. omega (arith, many_hands s.hands four)))

pub guest-laid : (s : Seat) (p : ℕ) → length s.hands.places ≡ 4 → 0 < s.hands.many
    → laid (guest_at s p) ≡ sum_of (wager (stake (guest_at s p))) (hands s) + insurance (guest_at s p) + all_sides (sides (guest_at s p))
guest-laid s p four some =
    let same = guest-hands s p in
    laid_playing (guest_at s p) (ap (λ (x : SeatHands). length x.places) same ∙ four) (rw same some)
    ∙ ap (λ (x : SeatHands). sum_of (wager (stake (guest_at s p))) (hands_of x) + insurance (guest_at s p) + all_sides (sides (guest_at s p))) same

pub guest-prizes : (o : Options) (s : Seat) (p : ℕ) → prizes o (guest_at s p) ≡ sum_of (prize o (stake (guest_at s p))) (hands s)
unfolding prizes
guest-prizes o s p = ap (λ (x : SeatHands). sum_of (prize o (stake (guest_at s p))) (hands_of x)) (guest-hands s p)

pub seat_cards_lem : (w : ℕ → ℕ) (s : Seat) → sum_of w (seat_cards s) ≡ sum_of (λ h. sum_of w h.cards) (hands s)
seat_cards_lem w s = sum-flat w (λ h. h.cards) (hands s)

-- the seat with another hand at p, and with two hands for the one there and these first cards
abbrev pub with-hand : Seat → ℕ → SeatHand → Seat
with-hand s p h = make_seat s.money s.others (record { places = set s.hands.places p h; many = s.hands.many }) s.first

abbrev pub with_two : Seat → ℕ → SeatHand → SeatHand → List ℕ → Seat
with_two s p a b first = make_seat s.money s.others (record { places = take 4 (two-for s.hands.places p a b); many = s.hands.many + 1 }) first

-- with two hands or more the codes do not depend on how many there are
one_more : (o : Options) (up many : ℕ) (h : SeatHand) → 2 ≤ many → SoundHand o up many h → SoundHand o up (many + 1) h
unfolding sound_origin sound_ending sound_surrender
one_more o up many h two f =
    let before : eqb many 1 ≡ false = ne_eqb many 1 (λ e. omega arith) in
    let after : eqb (many + 1) 1 ≡ false = ne_eqb (many + 1) 1 (λ e. omega arith) in
    record { two_cards_lem = f.two_cards_lem; twenty_cards = f.twenty_cards; played = f.played; origin = cc; ended = cc }

module _ (s : Seat) (p : ℕ) (shaped : ShapedSeat s) (few : s.hands.many ≤ 4) (here : p < s.hands.many) where
  pub how_many : length (hands s) ≡ s.hands.many
  how_many = omega (arith, many_hands s.hands shaped.four_places)

  pub hand_is : get_or (hands s) p (played_of missing_place) ≡ played_of (get_or s.hands.places p missing_place)
  hand_is = hand_at s.hands p missing_place here

  module _ (h : SeatHand) where
    pub hands_with : hands (with-hand s p h) ≡ set (hands s) p (played_of h)
    hands_with = ap (map played_of) (take-set-lt s.hands.many s.hands.places p h here) ∙ map-set played_of (take s.hands.many s.hands.places) p h

    pub shaped_with : length h.hand.cards ≡ 20 → ShapedSeat (with-hand s p h)
    shaped_with full =
        record {
          four_places = length-set s.hands.places p h ∙ shaped.four_places;
          two_others = shaped.two_others;
          four_sides = λ q l. ap (λ (m : Money). length m.sides) (guest_money (with-hand s p h) s refl refl q) ∙ shaped.four_sides q l;
          three_first = shaped.three_first;
          twenty_cards = λ q l. holds-set (λ n x. length x.hand.cards ≡ 20) s.hands.places p q h missing_place (omega (arith, shaped.four_places)) full (shaped.twenty_cards q l);
        }

    pub each_with : (o : Options) (up : ℕ)
        → ((q : ℕ) → q < s.hands.many → q < length s.hands.places → SoundHand o up s.hands.many (get_or s.hands.places q missing_place))
        → SoundHand o up s.hands.many h
        → (q : ℕ) → q < s.hands.many → q < length (set s.hands.places p h) → SoundHand o up s.hands.many (get_or (set s.hands.places p h) q missing_place)
    each_with o up each new q l _ =
        holds-set (λ n x. SoundHand o up s.hands.many x) s.hands.places p q h missing_place (omega (arith, shaped.four_places)) new (each q l (omega (arith, shaped.four_places)))

    pub sum_with : (f : Played → ℕ) → sum_of f (hands (with-hand s p h)) + f (played_of (get_or s.hands.places p missing_place)) ≡ sum_of f (hands s) + f (played_of h)
    sum_with f = rw (hands_with, ← hand_is) (sum-set f (hands s) p (played_of h) (played_of missing_place) (omega (arith, how_many)))

  module _ (a b : SeatHand) (first : List ℕ) where
    pub hands-two : s.hands.many < 4 → hands (with_two s p a b first) ≡ two-for (hands s) p (played_of a) (played_of b)
    hands-two room =
        ap (map played_of) (take-take (s.hands.many + 1) 4 (two-for s.hands.places p a b) (omega arith))
        ∙ rw add-one (ap (map played_of) (take-two_for s.hands.places p s.hands.many a b here))
        ∙ map-two_for played_of (take s.hands.many s.hands.places) p a b

    pub shaped_two : length a.hand.cards ≡ 20 → length b.hand.cards ≡ 20 → length first ≡ 3 → ShapedSeat (with_two s p a b first)
    shaped_two full-a full-b three =
        record {
          four_places = length-take-le 4 (two-for s.hands.places p a b) (omega (arith, length-two_for s.hands.places p a b (omega (arith, shaped.four_places)), shaped.four_places));
          two_others = shaped.two_others;
          four_sides = λ q l. ap (λ (m : Money). length m.sides) (guest_money (with_two s p a b first) s refl refl q) ∙ shaped.four_sides q l;
          three_first = three;
          twenty_cards = λ q l.
              rw (get_or-take 4 (two-for s.hands.places p a b) q missing_place l)
              (holds-two_for (λ x. length x.hand.cards ≡ 20) s.hands.places p 4 a b missing_place (omega (arith, shaped.four_places)) (omega arith) full-a full-b shaped.twenty_cards q (omega arith));
        }

    pub each_two : (o : Options) (up : ℕ) → s.hands.many < 4
        → ((q : ℕ) → q < s.hands.many → q < length s.hands.places → SoundHand o up s.hands.many (get_or s.hands.places q missing_place))
        → SoundHand o up (s.hands.many + 1) a → SoundHand o up (s.hands.many + 1) b
        → (q : ℕ) → q < s.hands.many + 1 → q < length (take 4 (two-for s.hands.places p a b))
        → SoundHand o up (s.hands.many + 1) (get_or (take 4 (two-for s.hands.places p a b)) q missing_place)
    each_two o up room each new-a new-b q l _ = rw (get_or-take 4 (two-for s.hands.places p a b) q missing_place (omega arith)) (go (dec_le 2 s.hands.many) q l)
      where
        both : (q : ℕ) → q < 2 → SoundHand o up (s.hands.many + 1) (get_or (two-for s.hands.places 0 a b) q missing_place)
        both zero l = new-a
        both (suc zero) l = new-b
        both (suc (suc q)) l = absurd (omega arith)

        -- beside others it finds them unchanged; a seat's only hand has none beside it
        go : Dec (2 ≤ s.hands.many) → (q : ℕ) → q < s.hands.many + 1 → SoundHand o up (s.hands.many + 1) (get_or (two-for s.hands.places p a b) q missing_place)
        go (yes two) q l =
            holds-two_for (SoundHand o up (s.hands.many + 1)) s.hands.places p s.hands.many a b missing_place (omega (arith, shaped.four_places)) here new-a new-b
            (λ k m. one_more o up s.hands.many _ two (each k m (omega (arith, shaped.four_places)))) q (omega arith)
        go (no one) q l = let only : p ≡ 0 = omega arith in rw only (both q (omega arith))

    pub sum-two : s.hands.many < 4 → (f : Played → ℕ) → sum_of f (hands (with_two s p a b first)) + f (played_of (get_or s.hands.places p missing_place)) ≡ sum_of f (hands s) + f (played_of a) + f (played_of b)
    sum-two room f = rw (hands-two room, ← hand_is) (sum-two_for f (hands s) p (played_of a) (played_of b) (played_of missing_place) (omega (arith, how_many)))
