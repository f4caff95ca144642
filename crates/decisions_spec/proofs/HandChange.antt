-- A decision that puts another hand for the one at p, which waits: what the seat's sums and views come to follows from that hand's. Stand, even, five,
-- surrender, draw and double are such; a split puts two.
use mathlib.Core.Path.{◌≡◌, refl, sym, ◌∙◌, ap, subst}
use mathlib.Core.Bool.{false, cond}
use mathlib.Core.List.{List}
use Prim.Native.Nat.{ℕ, ◌+◌}
use native.Mathlib.Omega.{arith}
use lib.Dec.{eqb}
use lib.ListN.{length, set, take, length-set}
use Rattle.lists.specs.Sum.{sum_of}
use Rattle.cards.specs.Hand.{cards_of}
use Rattle.rules.specs.declared.seat_hand.SeatHand.{SeatHand}
use Rattle.rules.specs.SeatHand.{Played, played_of}
use Rattle.payment.specs.Wager.{wager}
use Rattle.payment.specs.Prize.{prize}
use Rattle.payment.specs.Bets.{all_sides}
use Rattle.history.specs.Entry.{Entry, is_split, is_surrender}
use Rattle.history.specs.Cards.{Cards, call_takes}
use Rattle.history.specs.Money.{lays, wins}
use Rattle.table.specs.declared.Money.{Money}
use Rattle.table.specs.declared.Seat.{Seat}
use Rattle.table.specs.declared.Shoe.{Shoe}
use Rattle.table.specs.declared.Table.{Table}
use Rattle.table.specs.Guest.{with_purse}
use Rattle.table.specs.Seat.{make_seat, guest_at, over_guests, purse, stake, insurance, sides, hands, first_cards, laid, prizes, seat_cards}
use Rattle.table.specs.Table.{seat_at, guest_of, up, table_shoe}
use Rattle.table.specs.Shape.{ShapedSeat}
use Rattle.table.specs.Aids.Sound.{SoundHand}
use Rattle.table.proofs.Guests.{guest-seated, guest_money}
use Rattle.table.proofs.SeatHands.{guest-laid, guest-prizes, seat_cards_lem, with-hand, hands_with, shaped_with, each_with, sum_with}
use Rattle.agreement.specs.Aids.Agrees.{CardsAgree}
use Rattle.agreement.proofs.Events.{Events}
use Rattle.decisions_spec.specs.Place.{place_of}
use Rattle.decisions_spec.specs.Turn.{waiting_place_of}
use Rattle.decisions_spec.proofs.Acting.{Waiting}
use Rattle.decisions_spec.proofs.Turn.{TurnAccepted}
use Rattle.decisions_spec.proofs.Decision.{makes, Deciding, Draws, Decided}

-- `m` and `others` are the money of the seat's guests after it
module _ (t : Table) (e : Entry) (j p tray : ℕ) (m : Money) (others : List Money) (h : SeatHand) (shoe : Shoe) (k : ℕ) (more won : ℕ → ℕ) where
  -- the seat with the new money, and its hands as they were
  abbrev paid : Seat
  paid = make_seat m others (seat_at t j).hands (seat_at t j).first

  pub record HandChange : Type 0 where
    pub deciding : Deciding e j
    pub no_split : is_split e ≡ false
    pub as_many : length others ≡ length (seat_at t j).others
    pub same_money : (q : ℕ) → (guest_at paid q).money ≡ with_purse (guest_of t j q).money (purse (guest_at paid q))
    pub full : length h.hand.cards ≡ 20
    pub sound_hand_lem : SoundHand t.options (up t) (seat_at t j).hands.many h
    pub turn_is : is_surrender e ≡ false → TurnAccepted t j
    pub decides : (c : Cards) → CardsAgree c t → makes (hands (seat_at t j)) (waiting_place_of t j) c e ≡ set (hands (seat_at t j)) p (played_of h)
    pub events : Events e (hands (seat_at t j)) (set (hands (seat_at t j)) p (played_of h))
    pub lays_it : (q S : ℕ) → lays j q S e ≡ more S
    pub wins_it : (c : Cards) → CardsAgree c t → (S : ℕ) → wins t.options c j S (hands (seat_at t j)) e ≡ won S
    pub wager_grows : (S : ℕ) → wager S (played_of h) ≡ wager S (played_of (place_of (seat_at t j) p)) + more S
    pub prize_grows : (S : ℕ) → prize t.options S (played_of h) ≡ prize t.options S (played_of (place_of (seat_at t j) p)) + won S
    pub purse_pays : (q : ℕ) → purse (guest_at paid q) + more (stake (guest_of t j q)) ≡ purse (guest_of t j q) + won (stake (guest_of t j q))
    pub tray_pays : tray + over_guests (λ g. won (stake g)) (seat_at t j) ≡ t.tray
    pub draws : Draws t shoe k
    pub takes : (staked : ℕ) (c : Cards) → call_takes t.options staked c e ≡ k
    pub cards_grow : (w : ℕ → ℕ) → sum_of w (cards_of h.hand) ≡ sum_of w (cards_of (place_of (seat_at t j) p).hand) + sum_of w (take k (table_shoe t))

  module _ (w : Waiting t j p) (d : HandChange) where
    paid-shaped : ShapedSeat paid
    paid-shaped =
        let was = w.seat.shaped in
        record {
          four_places = was.four_places;
          two_others = d.as_many ∙ was.two_others;
          four_sides = λ q l. ap (λ (x : Money). length x.sides) (d.same_money q) ∙ was.four_sides q l;
          three_first = was.three_first;
          twenty_cards = was.twenty_cards;
        }

    abbrev now : Seat
    now = with-hand paid p h

    now-shaped : ShapedSeat now
    now-shaped = shaped_with paid p paid-shaped w.seat.few w.here h d.full

    now-hands : hands now ≡ set (hands (seat_at t j)) p (played_of h)
    now-hands = hands_with paid p paid-shaped w.seat.few w.here h

    over-hands : (f : Played → ℕ) → sum_of f (hands now) + f (played_of (place_of (seat_at t j) p)) ≡ sum_of f (hands (seat_at t j)) + f (played_of h)
    over-hands = sum_with paid p paid-shaped w.seat.few w.here h

    -- the guests have the new money
    paid-now : (q : ℕ) → (guest_at now q).money ≡ (guest_at paid q).money
    paid-now = guest_money now paid refl refl

    now-money : (q : ℕ) → (guest_at now q).money ≡ with_purse (guest_of t j q).money (purse (guest_at now q))
    now-money q = paid-now q ∙ d.same_money q ∙ ap (λ (x : Money). with_purse (guest_of t j q).money x.purse) (sym (paid-now q))

    now-laid : (q : ℕ) → laid (guest_at now q) ≡ laid (guest_of t j q) + more (stake (guest_of t j q))
    now-laid q =
        let g = guest_of t j q in
        let lies : laid (guest_at now q) ≡ sum_of (wager (stake g)) (hands now) + insurance g + all_sides (sides g) =
        guest-laid now q now-shaped.four_places w.seat.some
        ∙ ap (λ (x : Money). sum_of (wager x.stake) (hands now) + x.insurance + all_sides x.sides) (now-money q) in
        omega (arith, guest-laid (seat_at t j) q w.seat.shaped.four_places w.seat.some, over-hands (wager (stake g)), d.wager_grows (stake g))

    now-prizes : (q : ℕ) → prizes t.options (guest_at now q) ≡ prizes t.options (guest_of t j q) + won (stake (guest_of t j q))
    now-prizes q =
        let S = stake (guest_of t j q) in
        let wins-now : prizes t.options (guest_at now q) ≡ sum_of (prize t.options S) (hands now) =
        guest-prizes t.options now q ∙ ap (λ (x : Money). sum_of (prize t.options x.stake) (hands now)) (now-money q) in
        omega (arith, guest-prizes t.options (seat_at t j) q, over-hands (prize t.options S), d.prize_grows S)

    -- it has as many hands
    now-first : first_cards now ≡ first_cards (seat_at t j)
    now-first = ap (λ (n : ℕ). take (cond (eqb n 1) 2 3) (seat_at t j).first) (ap length now-hands ∙ length-set (hands (seat_at t j)) p (played_of h))

    now-cards : (v : ℕ → ℕ) → sum_of v (seat_cards now) ≡ sum_of v (seat_cards (seat_at t j)) + sum_of v (take k (table_shoe t))
    now-cards v = omega (arith, seat_cards_lem v now, seat_cards_lem v (seat_at t j), over-hands (λ x. sum_of v x.cards), d.cards_grow v)

    now-staked : stake now ≡ stake (seat_at t j)
    now-staked = ap stake (sym (guest-seated now)) ∙ ap (λ (x : Money). x.stake) (now-money 0) ∙ ap stake (guest-seated (seat_at t j))

    pub hand-decided : Decided t e j tray now shoe k more won
    hand-decided =
        record {
          deciding = d.deciding;
          acting = w.seat.acting;
          shaped_seat = now-shaped;
          same_money = now-money;
          has_hands = w.seat.some;
          playing =
              record {
                in_round_lem = w.seat.playing.in_round_lem;
                staked = omega (arith, w.seat.acting.staked, now-staked);
                within = w.seat.playing.within;
                each = each_with paid p paid-shaped w.seat.few w.here h t.options (up t) w.seat.playing.each d.sound_hand_lem;
              };
          turn_is = d.turn_is;
          hands_are = λ c agree. now-hands ∙ sym (d.decides c agree);
          first_is = λ c agree. now-first ∙ sym (simp d.no_split);
          events = subst (Events e (hands (seat_at t j))) (sym now-hands) d.events;
          lays_it = d.lays_it;
          wins_it = d.wins_it;
          laid_grows = now-laid;
          prizes_grow = now-prizes;
          purse_pays = λ q. omega (arith, ap (λ (x : Money). x.purse) (paid-now q), d.purse_pays q);
          tray_pays = d.tray_pays;
          draws = d.draws;
          takes = d.takes;
          cards_moved = now-cards;
        }
