-- An accepted split: two hands for the pair, each of one of its cards and a drawn one, and each guest's stake again for the new hand. Two cards are no prize hand. The first
-- split of a seat keeps the first card that it draws, as the history does.
use mathlib.Core.Path.{◌≡◌, refl, sym, ◌∙◌, ap, ap₂}
use mathlib.Core.Bool.{Bool, true, false, cond, and-false, and-eq-true_iff}
use mathlib.Core.List.{List, [], ◌∷◌, ◌++◌}
use Prim.Native.Nat.{ℕ, ◌+◌, ◌≤◌, ◌<◌}
use native.Mathlib.Omega.{arith}
use lib.Dec.{eqb}
use lib.ListN.{length, get_or, take, set, length-set, length-map}
use lib.Seq.{take_all, take-suc-set}
use borrow.Author.Tests.{leb-false, ltb-false, eqb-true, eq-eqb, ne_eqb, not-false}
use Rattle.lists.specs.Sum.{sum_of}
use Rattle.lists.specs.Tests.{all_of}
use Rattle.lists.proofs.Takes.{take-two}
use Rattle.lists.proofs.Inserts.{two-for}
use Rattle.cards.specs.Card.{rank_of, is_ace}
use Rattle.cards.specs.Hand.{cards_of, with_card}
use Rattle.cards.specs.Length.{could_be_played}
use Rattle.cards.specs.Pair.{is_pair}
use Rattle.cards.proofs.prize_hand.PrizeTotal.{no_prize_of-two}
use Rattle.options.specs.declared.Options.{Options}
use Rattle.options.proofs.Facts.{in_range_facts}
use Rattle.rules.specs.declared.seat_hand.SeatHand.{SeatHand}
use Rattle.rules.specs.SeatHand.{Played, played_of, split, split_aces}
use Rattle.rules.proofs.drew.Laws.{drew_hands}
use Rattle.rules.proofs.seat_hand.Places.{many_hands}
use Rattle.payment.specs.Wager.{wager}
use Rattle.payment.specs.Prize.{prize}
use Rattle.payment.specs.Bets.{all_sides}
use Rattle.payment.proofs.Bounds.{wager_single, prize-none}
use Rattle.call.specs.declared.At.{At}
use Rattle.call.specs.declared.Call.TheVariants.{Split}
use Rattle.call.specs.Refusal.{first}
use Rattle.history.specs.Aids.MakeEntry.{entry}
use Rattle.history.specs.Cards.{Cards, call_takes}
use Rattle.history.specs.Hands.{next_card, split_one, split_hands, decide}
use Rattle.history.specs.Money.{lays, wins}
use Rattle.table.specs.declared.Money.{Money}
use Rattle.table.specs.declared.Seat.{Seat}
use Rattle.table.specs.declared.Table.{Table}
use Rattle.table.specs.Guest.{with_purse}
use Rattle.table.specs.Seat.{guest_at, map_guests, purse, stake, insurance, sides, hands, first_cards, laid, prizes, seat_cards}
use Rattle.table.specs.Shoe.{with_drawn}
use Rattle.table.specs.Table.{seat_at, guest_of, up, cards_left, table_shoe}
use Rattle.table.specs.Broken.{sound_origin, sound_ending}
use Rattle.table.specs.Shape.{Shaped, ShapedSeat}
use Rattle.table.specs.Aids.Sound.{Sound, SoundHand}
use Rattle.table.proofs.Guests.{guest-seated, guest_money}
use Rattle.table.proofs.SeatHands.{guest-laid, guest-prizes, seat_cards_lem, with_two, how_many, hand_is, hands-two, shaped_two, each_two, sum-two}
use Rattle.table.proofs.NextCards.{next-two}
use Rattle.agreement.proofs.Events.{Events, drawing}
use Rattle.agreement.specs.Aids.Agrees.{CardsAgree}
use Rattle.decisions_spec.specs.Turn.{waiting_place_of, waiting_hand_of}
use Rattle.decisions_spec.specs.Card.{card_ahead}
use Rattle.decisions_spec.specs.Split.{split_conditions, pair_card_of, split_hand, split_first, staked_again, split_effect}
use Rattle.decisions_spec.proofs.Acting.{Waiting}
use Rattle.decisions_spec.proofs.Paying.{Pays, all-pay, paid_money, paid_purse_lem, all_enough}
use Rattle.decisions_spec.proofs.Decision.{makes, keeps, Decided, draws_some, Decision}
use Rattle.decisions_spec.proofs.Turn.{TurnAccepted, turn-accepted, turn-waiting}
use Rattle.decisions_spec.proofs.Card.{next_card_lem}

-- the hand of a kept card and a drawn one
module _ (kept card : ℕ) where
  split-played : played_of (split_hand kept card) ≡ split_one kept card
  unfolding with_card split_one
  split-played = refl

  split-cards : cards_of (split_hand kept card).hand ≡ kept ∷ card ∷ []
  unfolding with_card
  split-cards = refl

  split-two : length (cards_of (split_hand kept card).hand) ≡ 2
  split-two = ap length split-cards

  split_full : length (split_hand kept card).hand.cards ≡ 20
  unfolding with_card
  split_full = refl

  -- sound beside another
  split-sound : (o : Options) (up many : ℕ) → 2 ≤ many → SoundHand o up many (split_hand kept card)
  unfolding with_card could_be_played sound_origin sound_ending
  split-sound o up many beside =
      let origin = cond (is_ace kept) split_aces split in
      record { two_cards_lem = omega arith; twenty_cards = omega arith; played = refl; origin = simp (ne_eqb many 1 (λ one. omega arith)) (eq-eqb origin origin refl); ended = refl }

-- what its conditions give
pub record SplitAccepted (t : Table) (j : ℕ) : Type 0 where
  pub turn : TurnAccepted t j
  pub pair : length (cards_of (waiting_hand_of t j).hand) ≡ 2
  pub room : length (hands (seat_at t j)) < t.options.hands
  pub enough : (q : ℕ) → q < 3 → stake (guest_of t j q) ≤ purse (guest_of t j q)
  pub left : 2 ≤ cards_left t

pub split-accepted : (t : Table) (j p : ℕ) → first (split_conditions t j p) ≡ 0 → SplitAccepted t j
unfolding split_conditions is_pair all_of
split-accepted t j p e =
    let cards = cards_of (waiting_hand_of t j).hand in
    let (turn, (pair, (room, (enough, (left, _))))) = turn-accepted t j p _ refl e in
    record {
      turn = turn;
      pair = eqb-true (length cards) 2 ((and-eq-true_iff (eqb (length cards) 2) (eqb (rank_of (get_or cards 0 0)) (rank_of (get_or cards 1 0)))).0 (not-false (is_pair cards) pair)).0;
      room = leb-false t.options.hands (length (hands (seat_at t j))) room;
      enough = all_enough (seat_at t j) enough;
      left = ltb-false (cards_left t) 2 left;
    }

module _ (t : Table) (at : At) (order : List ℕ) (shaped : Shaped t) (sound : Sound t) (w : Waiting t at.seat (waiting_place_of t at.seat)) (a : SplitAccepted t at.seat) where
  abbrev s : Seat
  s = seat_at t at.seat

  abbrev p : ℕ
  p = waiting_place_of t at.seat

  abbrev kept-first : ℕ
  kept-first = pair_card_of t at.seat 0

  abbrev kept_second : ℕ
  kept_second = pair_card_of t at.seat 1

  abbrev drawn-first : ℕ
  drawn-first = card_ahead t 0

  abbrev drawn-second : ℕ
  drawn-second = card_ahead t 1

  abbrev parent : SeatHand
  parent = split_hand kept-first drawn-first

  abbrev new : SeatHand
  new = split_hand kept_second drawn-second

  -- each guest's stake is laid again
  abbrev paid : Seat
  paid = map_guests staked_again s

  abbrev first-now : List ℕ
  first-now = split_first s (card_ahead t 0)

  abbrev now : Seat
  now = with_two paid p parent new first-now

  many : length (hands s) ≡ s.hands.many
  many = how_many s p w.seat.shaped w.seat.few w.here

  fewer : s.hands.many < 4
  fewer = omega (arith, many, a.room, (in_range_facts t.options sound.options).hands_most)

  beside : 2 ≤ s.hands.many + 1
  beside = omega (arith, w.here)

  first_three : length first-now ≡ 3
  first_three = go _
    where
      go : (b : Bool) → length (cond b (set s.first 2 (card_ahead t 0)) s.first) ≡ 3
      go true = length-set s.first 2 (card_ahead t 0) ∙ w.seat.shaped.three_first
      go false = w.seat.shaped.three_first

  pays : Pays staked_again (λ S. S) (λ S. 0) s
  pays =
      record {
        two = w.seat.shaped.two_others;
        keeps = λ m. refl;
        moves = λ m has. omega arith;
        lays_none = refl;
        wins_none = refl;
        enough = a.enough;
      }

  each : (q : ℕ) → (guest_at paid q).money ≡ staked_again (guest_at s q).money
  each = all-pay staked_again (λ S. S) (λ S. 0) s pays

  paid-shaped : ShapedSeat paid
  paid-shaped =
      let was = w.seat.shaped in
      record {
        four_places = was.four_places;
        two_others = length-map s.others staked_again ∙ was.two_others;
        four_sides = λ q l. ap (λ (m : Money). length m.sides) (each q) ∙ was.four_sides q l;
        three_first = was.three_first;
        twenty_cards = was.twenty_cards;
      }

  now-shaped : ShapedSeat now
  now-shaped = shaped_two paid p paid-shaped w.seat.few w.here parent new first-now (split_full kept-first drawn-first) (split_full kept_second drawn-second) first_three

  -- the guests have the new money
  paid-now : (q : ℕ) → (guest_at now q).money ≡ (guest_at paid q).money
  paid-now = guest_money now paid refl refl

  now-money : (q : ℕ) → (guest_at now q).money ≡ with_purse (guest_at s q).money (purse (guest_at now q))
  now-money q = paid-now q ∙ paid_money staked_again (λ S. S) (λ S. 0) s pays paid each q ∙ ap (λ (m : Money). with_purse (guest_at s q).money m.purse) (sym (paid-now q))

  over-hands : (f : Played → ℕ) → sum_of f (hands now) + f (played_of (waiting_hand_of t at.seat)) ≡ sum_of f (hands s) + f (played_of parent) + f (played_of new)
  over-hands f = sum-two paid p paid-shaped w.seat.few w.here parent new first-now fewer f

  now-laid : (q : ℕ) → laid (guest_at now q) ≡ laid (guest_at s q) + stake (guest_at s q)
  now-laid q =
      let g = guest_at s q in
      let lies : laid (guest_at now q) ≡ sum_of (wager (stake g)) (hands now) + insurance g + all_sides (sides g) =
      guest-laid now q now-shaped.four_places (omega arith)
      ∙ ap (λ (m : Money). sum_of (wager m.stake) (hands now) + m.insurance + all_sides m.sides) (now-money q) in
      omega (
        arith,
        guest-laid s q w.seat.shaped.four_places w.seat.some,
        over-hands (wager (stake g)),
        wager_single (stake g) (played_of parent) (λ b. omega arith),
        wager_single (stake g) (played_of new) (λ b. omega arith),
        wager_single (stake g) (played_of (waiting_hand_of t at.seat)) (λ b. omega (arith, w.not_ended_lem)),
      )

  no_prize : (S : ℕ) (h : SeatHand) → length (cards_of h.hand) ≡ 2 → prize t.options S (played_of h) ≡ 0
  no_prize S h two = prize-none t.options S (played_of h) (no_prize_of-two (cards_of h.hand) two)

  now-prizes : (q : ℕ) → prizes t.options (guest_at now q) ≡ prizes t.options (guest_at s q) + 0
  now-prizes q =
      let S = stake (guest_at s q) in
      let wins-now : prizes t.options (guest_at now q) ≡ sum_of (prize t.options S) (hands now) =
      guest-prizes t.options now q ∙ ap (λ (m : Money). sum_of (prize t.options m.stake) (hands now)) (now-money q) in
      omega (
        arith,
        guest-prizes t.options s q,
        over-hands (prize t.options S),
        no_prize S (waiting_hand_of t at.seat) a.pair,
        no_prize S parent (split-two kept-first drawn-first),
        no_prize S new (split-two kept_second drawn-second),
      )

  now-staked : stake now ≡ stake s
  now-staked = ap stake (sym (guest-seated now)) ∙ ap (λ (m : Money). m.stake) (now-money 0) ∙ ap stake (guest-seated s)

  -- the two cards of the pair
  kept : cards_of (waiting_hand_of t at.seat).hand ≡ kept-first ∷ kept_second ∷ []
  kept = let xs = cards_of (waiting_hand_of t at.seat).hand in sym (take_all 2 xs (omega (arith, a.pair))) ∙ take-two xs 2 0 refl (omega (arith, a.pair))

  now-cards : (v : ℕ → ℕ) → sum_of v (seat_cards now) ≡ sum_of v (seat_cards s) + sum_of v (take 2 (table_shoe t))
  unfolding sum_of
  now-cards v =
      omega (
        arith,
        seat_cards_lem v now,
        seat_cards_lem v s,
        over-hands (λ h. sum_of v h.cards),
        ap (sum_of v) (split-cards kept-first drawn-first),
        ap (sum_of v) (split-cards kept_second drawn-second),
        ap (sum_of v) kept,
        ap (sum_of v) (next-two t shaped sound (omega (arith, a.left))),
      )

  now-hands : (c : Cards) → CardsAgree c t → hands now ≡ makes (hands s) p c (entry (Split at) order)
  unfolding decide split_hands
  now-hands c agree =
      let hs = hands s in
      let old = played_of (waiting_hand_of t at.seat) in
      let both : Played → ℕ → ℕ → List Played = λ h a b. two-for hs p (split_one (get_or h.cards 0 0) a) (split_one (get_or h.cards 1 0) b) in
      hands-two paid p paid-shaped w.seat.few w.here parent new first-now fewer
      ∙ ap₂ (two-for hs p) (split-played kept-first drawn-first) (split-played kept_second drawn-second)
      ∙ ap₂ (both old) (sym (next_card_lem t c 0 agree (omega (arith, a.left)))) (sym (next_card_lem t c 1 agree (omega (arith, a.left))))
      ∙ ap (λ (h : Played). both h (next_card c 0) (next_card c 1)) (sym (hand_is s p w.seat.shaped w.seat.few w.here))

  -- the seat has two hands or more now, so all three first cards count
  now-first : (c : Cards) → CardsAgree c t → first_cards now ≡ keeps (hands s) (first_cards s) c (entry (Split at) order)
  now-first c agree =
      let several : eqb (length (hands now)) 1 ≡ false = ne_eqb (length (hands now)) 1 (λ one. omega (arith, many_hands now.hands now-shaped.four_places, w.here)) in
      ap (λ (b : Bool). take (cond b 2 3) first-now) several
      ∙ ap (λ (n : ℕ). take 3 (cond (eqb n 1) (set s.first 2 (card_ahead t 0)) s.first)) (sym many)
      ∙ go (eqb (length (hands s)) 1)
      ∙ ap (λ (card : ℕ). cond (eqb (length (hands s)) 1) (first_cards s ++ (card ∷ [])) (first_cards s)) (sym (next_card_lem t c 0 agree (omega (arith, a.left))))
    where
      go : (b : Bool) → take 3 (cond b (set s.first 2 (card_ahead t 0)) s.first) ≡ cond b (take (cond b 2 3) s.first ++ (card_ahead t 0 ∷ [])) (take (cond b 2 3) s.first)
      go true = take-suc-set s.first 2 (card_ahead t 0) (omega (arith, w.seat.shaped.three_first))
      go false = refl

  -- there are two hands or more
  split-events : Events (entry (Split at) order) (hands s) (hands now)
  split-events = drawing (entry (Split at) order) (hands s) (hands now) refl (drew_hands (hands now) (omega (arith, many_hands now.hands now-shaped.four_places, w.here)))

  decided : Decided t (entry (Split at) order) at.seat t.tray now (with_drawn t.shoe 2) 2 (λ S. S) (λ S. 0)
  unfolding lays wins call_takes
  decided =
      record {
        deciding = record { among = refl; no_insure = refl; seat_is = refl };
        acting = w.seat.acting;
        shaped_seat = now-shaped;
        same_money = now-money;
        has_hands = omega arith;
        playing =
            record {
              in_round_lem = w.seat.playing.in_round_lem;
              staked = omega (arith, now-staked, w.seat.acting.staked);
              within = omega (arith, many, a.room);
              each =
                  each_two paid p paid-shaped w.seat.few w.here parent new first-now t.options (up t) fewer w.seat.playing.each
                  (split-sound kept-first drawn-first t.options (up t) (s.hands.many + 1) beside) (split-sound kept_second drawn-second t.options (up t) (s.hands.many + 1) beside);
            };
        turn_is = λ in_turn_lem. a.turn;
        hands_are = now-hands;
        first_is = now-first;
        events = split-events;
        lays_it = λ q S. simp (eq-eqb at.seat at.seat refl);
        wins_it = λ c agree S. simp and-false;
        laid_grows = now-laid;
        prizes_grow = now-prizes;
        purse_pays = λ q. omega (arith, ap (λ (m : Money). m.purse) (paid-now q), paid_purse_lem staked_again (λ S. S) (λ S. 0) s pays paid each q);
        tray_pays = omega arith;
        draws = draws_some t 2 a.left (omega arith);
        takes = λ staked c. refl;
        cards_moved = now-cards;
      }

pub split_decides : (t : Table) (at : At) (order : List ℕ) → Shaped t → Sound t → first (split_conditions t at.seat at.position) ≡ 0
    → Decision t (entry (Split at) order) (split_effect t at.seat)
unfolding split_effect
split_decides t at order shaped sound e =
    let a = split-accepted t at.seat at.position e in
    let w = turn-waiting t shaped sound at.seat a.turn in
    record {
      j = at.seat;
      tray = t.tray;
      seat = now t at order shaped sound w a;
      shoe = with_drawn t.shoe 2;
      k = 2;
      more = λ S. S;
      won = λ S. 0;
      is = refl;
      decided = decided t at order shaped sound w a;
    }
