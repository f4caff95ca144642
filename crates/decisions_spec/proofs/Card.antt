-- A decision that gives the hand whose turn it is the next card: draw and double. The hand was below 21, so it has room and was no prize hand.
use mathlib.Core.Path.{◌≡◌, refl, sym, ◌∙◌, ap}
use mathlib.Core.Bool.{true, false, not, ◌&&◌, ◌||◌, and-eq-true_iff}
use mathlib.Core.List.{List, [], ◌∷◌, ◌++◌}
use Prim.Native.Nat.{ℕ, ◌+◌, ◌-◌, ◌*◌, ◌≤◌, ◌<◌}
use native.Mathlib.Omega.{arith}
use lib.Dec.{ltb, eqb}
use lib.ListN.{length, get_or, set, length-map, length-take, length-append, get_or-append}
use borrow.Author.Tests.{ltb-true}
use Rattle.lists.specs.Sum.{sum_of}
use Rattle.lists.proofs.Sums.{sum_snoc, sum_one}
use Rattle.cards.specs.Hand.{cards_of, with_card}
use Rattle.cards.specs.Total.{total}
use Rattle.cards.proofs.hand.WithCard.{with_card-cards, with_card-count, with_card_full}
use Rattle.cards.proofs.total.Bounds.{room_below_21, played_more}
use Rattle.cards.proofs.prize_hand.PrizeTotal.{no_prize_below_21}
use Rattle.options.specs.declared.Options.{Options}
use Rattle.rules.specs.declared.seat_hand.SeatHand.{SeatHand}
use Rattle.rules.specs.SeatHand.{Played, played_of, split_aces, not_ended}
use Rattle.rules.proofs.drew.Laws.{drew_cards}
use Rattle.rules.specs.Turn.{waiting_place}
use Rattle.rules.specs.Waits.{waits}
use Rattle.rules.specs.Permits.{takes_cards}
use Rattle.payment.specs.Wager.{wager}
use Rattle.payment.specs.Prize.{prize, most_prize}
use Rattle.payment.proofs.Bounds.{wager_single, prize-none, prize_most}
use Rattle.history.specs.Entry.{Entry, is_draw, is_double, is_split}
use Rattle.history.specs.Cards.{Cards, call_takes}
use Rattle.history.specs.Hands.{played, missing_hand, next_card}
use Rattle.history.specs.Money.{lays, wins}
use Rattle.table.specs.declared.Money.{Money}
use Rattle.table.specs.declared.Seat.{Seat}
use Rattle.table.specs.declared.Table.{Table}
use Rattle.table.specs.Seat.{guest_at, map_guests, over_guests, purse, stake, hands}
use Rattle.table.specs.Shoe.{with_drawn}
use Rattle.table.specs.Table.{seat_at, guest_of, up, table_order, cards_left}
use Rattle.table.specs.Broken.{sound_origin, sound_ending}
use Rattle.table.specs.Shape.{Shaped}
use Rattle.table.specs.Aids.Sound.{Sound, SoundHand}
use Rattle.table.proofs.SeatHands.{with-hand, how_many, hand_is}
use Rattle.table.proofs.NextCards.{card_at_lem, next_one}
use Rattle.table.proofs.Cover.{tray_covers}
use Rattle.agreement.specs.Aids.Agrees.{CardsAgree}
use Rattle.agreement.proofs.Events.{Events, drawing}
use Rattle.decisions_spec.specs.Turn.{waiting_place_of, waiting_hand_of, may_take}
use Rattle.decisions_spec.specs.Card.{card_ahead, grown_hand, card_money, card_effect}
use Rattle.decisions_spec.proofs.Acting.{Waiting}
use Rattle.decisions_spec.proofs.Turn.{TurnAccepted, turn-waiting}
use Rattle.decisions_spec.proofs.Paying.{Pays, all-pay, paid_money, paid_purse_lem}
use Rattle.decisions_spec.proofs.Decision.{makes, Deciding, draws_some, Decision}
use Rattle.decisions_spec.proofs.HandChange.{HandChange, hand-decided}

-- the history's next cards are the table's
pub next_card_lem : (t : Table) (c : Cards) (n : ℕ) → CardsAgree c t → t.shoe.drawn + n < 52 * t.options.decks → next_card c n ≡ card_ahead t n
next_card_lem t c n agree left =
    ap (λ (xs : List ℕ). get_or xs (c.taken + n) 0) (sym agree.order)
    ∙ ap (λ (k : ℕ). get_or (table_order t) (k + n) 0) (sym agree.taken)
    ∙ card_at_lem t (t.shoe.drawn + n) left

-- what the history makes of the call, by which a guest of stake S lays `times` × S
pub record Growing (t : Table) (e : Entry) (j times code : ℕ) : Type 0 where
  pub deciding : Deciding e j
  pub no_split : is_split e ≡ false
  pub gives : is_draw e || is_double e ≡ true
  pub takes : (staked : ℕ) (c : Cards) → call_takes t.options staked c e ≡ 1
  pub decides : (c : Cards) (h : Played) → get_or (hands (seat_at t j)) (waiting_place_of t j) missing_hand ≡ h → h.ended ≡ not_ended
      → makes (hands (seat_at t j)) (waiting_place_of t j) c e ≡ set (hands (seat_at t j)) (waiting_place_of t j) (played (h.cards ++ (next_card c 0 ∷ [])) h.origin code)
  pub lays_it : (q S : ℕ) → lays j q S e ≡ times * S
  pub wins_it : (o : Options) (c : Cards) (S : ℕ) (hs : List Played) (h : Played) → get_or hs (waiting_place o (get_or c.bank 0 0) hs) missing_hand ≡ h → h.ended ≡ not_ended
      → wins o c j S hs e ≡ prize o S (played (h.cards ++ (next_card c 0 ∷ [])) h.origin code)
  pub wager_is : (S : ℕ) (h : Played) → h.ended ≡ code → wager S h ≡ S + times * S

-- what its conditions give; the ending fits the hand with the card
pub record Allowed (t : Table) (j times code : ℕ) : Type 0 where
  pub below : total (cards_of (waiting_hand_of t j).hand) < 21
  pub fits : cards_of (grown_hand t j code).hand ≡ cards_of (waiting_hand_of t j).hand ++ (card_ahead t 0 ∷ [])
      → sound_ending t.options (up t) (seat_at t j).hands.many (played_of (grown_hand t j code)) ≡ true
  pub purse_has : (q : ℕ) → q < 3 → times * stake (guest_of t j q) ≤ purse (guest_of t j q)
  pub left : 1 ≤ cards_left t

-- a hand below 21 with the next card
module _ (o : Options) (up many : ℕ) (h : SeatHand) (card code : ℕ) (full : length h.hand.cards ≡ 20) (sound : SoundHand o up many h) (below : total (cards_of h.hand) < 21) where
  room : h.hand.count < 20
  room = omega (arith, room_below_21 (cards_of h.hand) sound.played (omega (arith, length-take h.hand.count h.hand.cards)) below, length-take h.hand.count h.hand.cards)

  more-cards : cards_of (with_card h.hand card) ≡ cards_of h.hand ++ (card ∷ [])
  more-cards = with_card-cards h.hand card full room

  -- it comes from where it came from, and its first card is the same
  more-origin : sound_origin many (played (cards_of (with_card h.hand card)) h.origin code) ≡ true
  unfolding sound_origin
  more-origin =
      let some : 0 < length (cards_of h.hand) = omega (arith, length-take h.hand.count h.hand.cards, sound.two_cards_lem) in
      rw (more-cards, get_or-append (cards_of h.hand) (card ∷ []) 0 0) sound.origin

  more-sound : sound_ending o up many (played (cards_of (with_card h.hand card)) h.origin code) ≡ true
      → SoundHand o up many (record { hand = with_card h.hand card; origin = h.origin; ended = code })
  more-sound fits =
      record {
        two_cards_lem = omega (arith, with_card-count h.hand card room, sound.two_cards_lem);
        twenty_cards = omega (arith, with_card-count h.hand card room, room);
        played = rw more-cards (played_more (cards_of h.hand) card sound.played below);
        origin = more-origin;
        ended = fits;
      }

  more-full : length (with_card h.hand card).cards ≡ 20
  more-full = with_card_full h.hand card full room

module _ (t : Table) (e : Entry) (j times code : ℕ) (shaped : Shaped t) (sound : Sound t) (turn : TurnAccepted t j) (g : Growing t e j times code) (a : Allowed t j times code) where
  w : Waiting t j (waiting_place_of t j)
  w = turn-waiting t shaped sound j turn

  -- what a guest of stake S lays and wins
  abbrev more : ℕ → ℕ
  more S = times * S

  abbrev winner : Played
  winner = played_of (grown_hand t j code)

  abbrev won : ℕ → ℕ
  won S = prize t.options S winner

  abbrev pays-card : Money → Money
  pays-card = card_money t.options times winner

  abbrev paid-seat : Seat
  paid-seat = map_guests pays-card (seat_at t j)

  abbrev all-won : ℕ
  all-won = over_guests (λ s. won (stake s)) (seat_at t j)

  pays : Pays pays-card more won (seat_at t j)
  pays =
      record {
        two = w.seat.shaped.two_others;
        keeps = λ m. refl;
        moves = λ m has. omega arith;
        lays_none = omega arith;
        wins_none = omega (arith, prize_most t.options 0 winner);
        enough = a.purse_has;
      }

  each : (q : ℕ) → (guest_at paid-seat q).money ≡ pays-card (guest_of t j q).money
  each = all-pay pays-card more won (seat_at t j) pays

  full : length (waiting_hand_of t j).hand.cards ≡ 20
  full = w.seat.shaped.twenty_cards (waiting_place_of t j) (omega (arith, w.here, w.seat.few))

  was : SoundHand t.options (up t) (seat_at t j).hands.many (waiting_hand_of t j)
  was = w.seat.playing.each (waiting_place_of t j) w.here (omega (arith, w.here, w.seat.few, w.seat.shaped.four_places))

  cards : cards_of (grown_hand t j code).hand ≡ cards_of (waiting_hand_of t j).hand ++ (card_ahead t 0 ∷ [])
  cards = more-cards t.options (up t) (seat_at t j).hands.many (waiting_hand_of t j) (card_ahead t 0) code full was a.below

  same-hand : get_or (hands (seat_at t j)) (waiting_place_of t j) missing_hand ≡ played_of (waiting_hand_of t j)
  same-hand = hand_is (seat_at t j) (waiting_place_of t j) w.seat.shaped w.seat.few w.here

  -- the history gives it the same card
  history-cards : (c : Cards) → CardsAgree c t → cards_of (waiting_hand_of t j).hand ++ (next_card c 0 ∷ []) ≡ cards_of (grown_hand t j code).hand
  history-cards c agree = ap (λ (x : ℕ). cards_of (waiting_hand_of t j).hand ++ (x ∷ [])) (next_card_lem t c 0 agree (omega (arith, a.left))) ∙ sym cards

  wins-won : (c : Cards) → CardsAgree c t → (S : ℕ) → wins t.options c j S (hands (seat_at t j)) e ≡ won S
  wins-won c agree S =
      let o = t.options in
      let hs = hands (seat_at t j) in
      let h = played_of (waiting_hand_of t j) in
      g.wins_it o c S hs h (ap (λ (b : List ℕ). get_or hs (waiting_place o (get_or b 0 0) hs) missing_hand) (sym agree.bank) ∙ same-hand) w.not_ended_lem
      ∙ ap (λ (xs : List ℕ). prize o S (played xs h.origin code)) (history-cards c agree)

  -- the hand has three cards or more
  card-events : Events e (hands (seat_at t j)) (set (hands (seat_at t j)) (waiting_place_of t j) (played_of (grown_hand t j code)))
  card-events =
      let s = seat_at t j in
      let p = waiting_place_of t j in
      let new = played_of (grown_hand t j code) in
      let h = (waiting_hand_of t j).hand in
      let inside : p < length (hands s) = omega (arith, how_many s p w.seat.shaped w.seat.few w.here, w.here) in
      drawing e (hands s) (set (hands s) p new) (simp g.gives)
      (drew_cards (hands s) p new missing_hand inside
      (λ two. omega (arith, full, was.two_cards_lem, was.twenty_cards, length-take h.count h.cards, simp length-append at (ap length cards))))

  card-change : HandChange t e j (waiting_place_of t j) (t.tray - all-won) paid-seat.money paid-seat.others (grown_hand t j code) (with_drawn t.shoe 1) 1 more won
  card-change =
      let s = seat_at t j in
      let h = waiting_hand_of t j in
      let new = grown_hand t j code in
      let most : (q : ℕ) → won (stake (guest_of t j q)) ≤ most_prize (stake (guest_of t j q)) = λ q. prize_most t.options (stake (guest_of t j q)) winner in
      record {
        deciding = g.deciding;
        no_split = g.no_split;
        as_many = length-map s.others pays-card;
        same_money = paid_money pays-card more won s pays paid-seat each;
        full = more-full t.options (up t) s.hands.many h (card_ahead t 0) code full was a.below;
        sound_hand_lem = more-sound t.options (up t) s.hands.many h (card_ahead t 0) code full was a.below (a.fits cards);
        turn_is = λ in_turn_lem. turn;
        decides = λ c agree. g.decides c (played_of h) same-hand w.not_ended_lem ∙ ap (λ (xs : List ℕ). set (hands s) (waiting_place_of t j) (played xs h.origin code)) (history-cards c agree);
        events = card-events;
        lays_it = g.lays_it;
        wins_it = wins-won;
        wager_grows = λ S. omega (arith, g.wager_is S (played_of new) refl, wager_single S (played_of h) (λ b. omega (arith, w.not_ended_lem)));
        prize_grows = λ S. omega (arith, prize-none t.options S (played_of h) (no_prize_below_21 (cards_of h.hand) a.below));
        purse_pays = paid_purse_lem pays-card more won s pays paid-seat each;
        tray_pays = omega (arith, most 0, most 1, most 2, tray_covers t shaped.nine_seats_lem sound w.seat.acting.dealt j w.seat.acting.nine);
        draws = draws_some t 1 a.left (omega arith);
        takes = g.takes;
        cards_grow = λ v.
            omega
            (arith, ap (sum_of v) cards, sum_snoc v (cards_of h.hand) (card_ahead t 0), ap (sum_of v) (next_one t shaped sound (omega (arith, a.left))), sum_one v (card_ahead t 0));
      }

  pub card_decides : Decision t e (card_effect times code t j)
  unfolding card_effect
  card_decides =
      record {
        j = j;
        tray = t.tray - all-won;
        seat = with-hand paid-seat (waiting_place_of t j) (grown_hand t j code);
        shoe = with_drawn t.shoe 1;
        k = 1;
        more = more;
        won = won;
        is = refl;
        decided = hand-decided t e j (waiting_place_of t j) (t.tray - all-won) paid-seat.money paid-seat.others (grown_hand t j code) (with_drawn t.shoe 1) 1 more won w card-change;
      }

-- a hand that takes cards is below 21
pub takes_below : (t : Table) (j : ℕ) → may_take takes_cards t j ≡ true → total (cards_of (waiting_hand_of t j).hand) < 21
unfolding takes_cards
takes_below t j e =
    let h = played_of (waiting_hand_of t j) in
    ltb-true (total h.cards) 21 ((and-eq-true_iff (waits t.options (up t) (length (hands (seat_at t j))) h && not (eqb h.origin split_aces)) (ltb (total h.cards) 21)).0 e).1
