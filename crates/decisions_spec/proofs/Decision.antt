-- A decision: what it must give so that any sound table stays sound and one that agrees with a history still does. Each guest of the seat lays `more` and wins `won` by
-- its own stake, and the call draws k cards.
use mathlib.Core.Path.{◌≡◌, refl, sym, ◌∙◌, ap, ap₂, subst}
use mathlib.Core.Bool.{Bool, true, false, cond, ◌&&◌}
use mathlib.Core.List.{List, [], ◌∷◌, ◌++◌}
use Prim.Native.Nat.{ℕ, ◌+◌, ◌*◌, ◌≤◌, ◌<◌}
use native.Mathlib.Omega.{arith}
use lib.Dec.{ltb, eqb}
use lib.IntN.{pos}
use lib.ListN.{length, get_or, take}
use borrow.Author.Tests.{eqb-true, eq-eqb, ne_eqb}
use Rattle.lists.specs.Sum.{sum_of}
use Rattle.options.specs.declared.Options.{Options}
use Rattle.rules.specs.SeatHand.{Played}
use Rattle.rules.specs.Turn.{waiting_place}
use Rattle.rules.proofs.seat_hand.Places.{many_hands}
use Rattle.payment.specs.Cover.{cover, side_cover}
use Rattle.call.specs.Call.{kind, seat}
use Rattle.history.specs.Entry.{Entry, is_of, is_deal, is_insure, is_split, is_surrender, is_end}
use Rattle.history.specs.Rounds.{stake_in, insurance_in, staked_below}
use Rattle.history.specs.Cards.{Cards, call_takes, cards_of_history}
use Rattle.history.specs.Hands.{turn_in, decide, surrenders, next_card, hands_after, hands_in, first_after, first_in}
use Rattle.history.specs.Money.{lays, wins, laid_in, prizes_in, prize_of, purse_of}
use Rattle.table.specs.declared.Money.{Money}
use Rattle.table.specs.declared.Seat.{Seat}
use Rattle.table.specs.declared.Shoe.{Shoe}
use Rattle.table.specs.declared.Table.{Table}
use Rattle.table.specs.Guest.{with_purse}
use Rattle.table.specs.Seat.{guest_at, over_guests, purse, stake, insurance, sides, hands, first_cards, laid, prizes, seat_cards, seat_cover}
use Rattle.table.specs.Shoe.{with_drawn}
use Rattle.table.specs.Table.{seat_at, guest_of, is_dealt, up, table_shoe, cards_left}
use Rattle.table.specs.Shape.{Shaped, ShapedSeat}
use Rattle.table.specs.Aids.Sound.{Sound, SoundSeat, SoundGuest, Playing}
use Rattle.table.proofs.Guests.{guest-seated}
use Rattle.table.proofs.Facts.{dealt-drawn}
use Rattle.table.proofs.SeatChange.{changed, SeatChange, change_shaped, change_money, change_sound}
use Rattle.agreement.specs.Aids.Agrees.{GuestAgrees, SeatAgrees, CardsAgree, Good}
use Rattle.agreement.proofs.Groups.{InGroup, of_guest, not_fill, not_credit, not_load, not_buy, not_cash, not_stake, not_side, not_deal, not_end}
use Rattle.agreement.proofs.Quiet.{sides_stay, first_stay}
use Rattle.agreement.proofs.Events.{Events}
use Rattle.agreement.proofs.OneSeat.{SeatCall, one_call}
use Rattle.agreement.proofs.Purse.{purse_moves}
use Rattle.decisions_spec.specs.Turn.{waiting_place_of}
use Rattle.decisions_spec.proofs.Acting.{Acting, staked_seat}
use Rattle.decisions_spec.proofs.Turn.{TurnAccepted, history_turn}

-- what a decision of the seat makes of its hands, p being the place whose turn it is: surrender is out of turn
abbrev pub makes : List Played → ℕ → Cards → Entry → List Played
makes hands p c e = cond (is_surrender e) (surrenders hands) (decide hands p c e)

-- and what it makes of its first cards: the first split keeps the first card that it draws
abbrev pub keeps : List Played → List ℕ → Cards → Entry → List ℕ
keeps hands first c e = cond (is_split e && eqb (length hands) 1) (first ++ (next_card c 0 ∷ [])) first

-- a split is no surrender
in_turn-split : (e : Entry) → is_split e ≡ true → is_surrender e ≡ false
in_turn-split e splits = ap (λ (k : ℕ). eqb k 12) (eqb-true (kind e.call) 11 splits)

-- the decisions of seat j
pub record Deciding (e : Entry) (j : ℕ) : Type 0 where
  pub among : InGroup e of_guest
  pub no_insure : is_insure e ≡ false
  pub seat_is : seat e.call ≡ j

module _ (e : Entry) (j : ℕ) (g : Deciding e j) where
  no_end : is_end e ≡ false
  no_end = not_end e g.among refl

  no_deal : is_deal e ≡ false
  no_deal = not_deal e g.among refl

  pub of_seat : is_of j e ≡ true
  of_seat = eq-eqb (seat e.call) j g.seat_is

  of_other : (i : ℕ) → (i ≡ j → ⊥) → is_of i e ≡ false
  of_other i other = ne_eqb (seat e.call) i (λ h. other (omega arith))

  -- the history's values of the seat after it
  module _ (o : Options) (opening : List ℕ) (es : List Entry) where
    stake-after : (p : ℕ) → stake_in (e ∷ es) j p ≡ stake_in es j p
    stake-after p = simp (no_end, not_stake e g.among refl)

    insurance-after : (p : ℕ) → insurance_in (e ∷ es) j p ≡ insurance_in es j p
    insurance-after p = simp (no_end, g.no_insure)

    -- a decision in turn goes to the seat, and no other seat's hands change
    module _ (goes : is_surrender e ≡ false → turn_in o (cards_of_history o opening es) (λ k. hands_in o opening es k) ≡ j) where
      hands-after : (c : Cards) → c ≡ cards_of_history o opening es
          → hands_in o opening (e ∷ es) j ≡ makes (hands_in o opening es j) (waiting_place o (get_or c.bank 0 0) (hands_in o opening es j)) c e
      unfolding hands_after
      hands-after c same = go (is_surrender e) refl
        where
          go : (b : Bool) → is_surrender e ≡ b
              → hands_in o opening (e ∷ es) j
              ≡ cond b (surrenders (hands_in o opening es j)) (decide (hands_in o opening es j) (waiting_place o (get_or c.bank 0 0) (hands_in o opening es j)) c e)
          go true out = simp (no_deal, no_end, out, of_seat)
          go false out = simp (no_deal, no_end, out, eq-eqb j _ (sym (goes out)), same)

      hands-others : (i : ℕ) → (i ≡ j → ⊥) → hands_in o opening (e ∷ es) i ≡ hands_in o opening es i
      unfolding hands_after
      hands-others i other = go (is_surrender e) refl
        where
          go : (b : Bool) → is_surrender e ≡ b → hands_in o opening (e ∷ es) i ≡ hands_in o opening es i
          go true out = simp (no_deal, no_end, out, of_other i other)
          go false out = simp (no_deal, no_end, out, ne_eqb i _ (λ h. other (h ∙ goes out)))

      turn-splits : is_split e ≡ true → turn_in o (cards_of_history o opening es) (λ k. hands_in o opening es k) ≡ j
      turn-splits splits = goes (in_turn-split e splits)

      first-after : (c : Cards) → c ≡ cards_of_history o opening es → first_in o opening (e ∷ es) j ≡ keeps (hands_in o opening es j) (first_in o opening es j) c e
      unfolding first_after
      first-after c same = go (is_split e) refl
        where
          go : (b : Bool) → is_split e ≡ b
              → first_in o opening (e ∷ es) j ≡ cond (b && eqb (length (hands_in o opening es j)) 1) (first_in o opening es j ++ (next_card c 0 ∷ [])) (first_in o opening es j)
          go false none = first_stay o opening es j e no_deal no_end (simp none)
          go true splits = simp (no_deal, no_end, splits, eq-eqb j _ (sym (turn-splits splits)), same)

      first-others : (i : ℕ) → (i ≡ j → ⊥) → first_in o opening (e ∷ es) i ≡ first_in o opening es i
      first-others i other = first_stay o opening es i e no_deal no_end (go (is_split e) refl)
        where
          go : (b : Bool) → is_split e ≡ b → b && eqb i (turn_in o (cards_of_history o opening es) (λ k. hands_in o opening es k)) ≡ false
          go false none = refl
          go true splits = ne_eqb i _ (λ h. other (h ∙ turn-splits splits))

    laid-after : (p : ℕ) → laid_in (e ∷ es) j p ≡ lays j p (stake_in es j p) e + laid_in es j p
    laid-after p = simp no_end

    prizes-after : (p : ℕ) → prizes_in o opening (e ∷ es) j p ≡ prize_of o opening es j p e + prizes_in o opening es j p
    prizes-after p = simp no_end

    purse-after : (p x next : ℕ) → pos x ≡ purse_of o opening es j p → next + lays j p (stake_in es j p) e ≡ x + prize_of o opening es j p e
        → pos next ≡ purse_of o opening (e ∷ es) j p
    purse-after p x next was h = purse_moves o opening es j p e no_end x next was (simp (not_buy e g.among refl, not_cash e g.among refl) (omega arith))

-- k cards are drawn and go elsewhere
pub record Draws (t : Table) (shoe : Shoe) (k : ℕ) : Type 0 where
  pub same_order : shoe.order ≡ t.shoe.order
  pub same_discards : shoe.discards ≡ t.shoe.discards
  pub same_discarded : shoe.discarded ≡ t.shoe.discarded
  pub more_drawn : shoe.drawn ≡ t.shoe.drawn + k
  pub same_begun : shoe.begun ≡ t.shoe.begun
  pub enough : t.shoe.drawn + k ≤ 52 * t.options.decks

pub draws-none : (t : Table) → Sound t → Draws t t.shoe 0
draws-none t sound = record { same_order = refl; same_discards = refl; same_discarded = refl; more_drawn = omega arith; same_begun = refl; enough = omega (arith, sound.drawn) }

pub draws_some : (t : Table) (k : ℕ) → k ≤ cards_left t → 0 < k → Draws t (with_drawn t.shoe k) k
draws_some t k left some = record { same_order = refl; same_discards = refl; same_discarded = refl; more_drawn = refl; same_begun = refl; enough = omega arith }

-- A guest whose purse alone changes is as sound as it was, where the purse and what it laid can give its prizes back.
other_purse : (o : Options) (in_round : Bool) (up i : ℕ) (r s : Seat) → r.money ≡ with_purse s.money (purse r) → i < o.seats → prizes o r ≤ purse r + laid r
    → SoundGuest o in_round up i s
    → SoundGuest o in_round up i r
other_purse o in_round up i r s same within back was =
    record {
      beyond = λ h. absurd (omega arith);
      stake_fits = λ some. rw same_stake (was.stake_fits (omega (arith, same_stake)));
      insured = λ some.
          let f = was.insured (omega (arith, same_insurance)) in
          record { in_round_lem = f.in_round_lem; ace_up = f.ace_up; staked = omega (arith, same_stake, f.staked); permitted = rw (same_stake, same_insurance) f.permitted };
      sides_fit = λ k h some.
          let same-side : get_or (sides r) k 0 ≡ get_or (sides s) k 0 = ap (λ (m : Money). get_or m.sides k 0) same in
          let (staked, most) = was.sides_fit k h (omega arith) in
          (omega (arith, same_stake), omega arith);
      prizes_back = back;
    }
  where
    same_stake : stake r ≡ stake s
    same_stake = ap (λ (m : Money). m.stake) same

    same_insurance : insurance r ≡ insurance s
    same_insurance = ap (λ (m : Money). m.insurance) same

-- What a decision gives: of each guest of the seat, by its own stake, and of the hands, which are all of them's.
pub record Decided (t : Table) (e : Entry) (j tray : ℕ) (s : Seat) (shoe : Shoe) (k : ℕ) (more won : ℕ → ℕ) : Type 0 where
  pub deciding : Deciding e j
  pub acting : Acting t j
  pub shaped_seat : ShapedSeat s
  pub same_money : (p : ℕ) → (guest_at s p).money ≡ with_purse (guest_of t j p).money (purse (guest_at s p))
  pub has_hands : 0 < s.hands.many
  pub playing : Playing t.options (is_dealt t) (up t) s
  pub turn_is : is_surrender e ≡ false → TurnAccepted t j
  pub hands_are : (c : Cards) → CardsAgree c t → hands s ≡ makes (hands (seat_at t j)) (waiting_place_of t j) c e
  pub first_is : (c : Cards) → CardsAgree c t → first_cards s ≡ keeps (hands (seat_at t j)) (first_cards (seat_at t j)) c e
  pub events : Events e (hands (seat_at t j)) (hands s)
  pub lays_it : (p S : ℕ) → lays j p S e ≡ more S
  pub wins_it : (c : Cards) → CardsAgree c t → (S : ℕ) → wins t.options c j S (hands (seat_at t j)) e ≡ won S
  pub laid_grows : (p : ℕ) → laid (guest_at s p) ≡ laid (guest_of t j p) + more (stake (guest_of t j p))
  pub prizes_grow : (p : ℕ) → prizes t.options (guest_at s p) ≡ prizes t.options (guest_of t j p) + won (stake (guest_of t j p))
  pub purse_pays : (p : ℕ) → purse (guest_at s p) + more (stake (guest_of t j p)) ≡ purse (guest_of t j p) + won (stake (guest_of t j p))
  pub tray_pays : tray + over_guests (λ g. won (stake g)) (seat_at t j) ≡ t.tray
  pub draws : Draws t shoe k
  pub takes : (staked : ℕ) (c : Cards) → call_takes t.options staked c e ≡ k
  pub cards_moved : (w : ℕ → ℕ) → sum_of w (seat_cards s) ≡ sum_of w (seat_cards (seat_at t j)) + sum_of w (take k (table_shoe t))

module _ (t : Table) (e : Entry) (j tray : ℕ) (s : Seat) (shoe : Shoe) (k : ℕ) (more won : ℕ → ℕ) (sound : Sound t) (d : Decided t e j tray s shoe k more won) where
  was : SoundSeat t.options (is_dealt t) (up t) j (seat_at t j)
  was = sound.seats j d.acting.nine

  same_stake : (p : ℕ) → stake (guest_at s p) ≡ stake (guest_of t j p)
  same_stake p = ap (λ (m : Money). m.stake) (d.same_money p)

  same-seated : stake s ≡ stake (seat_at t j)
  same-seated = ap stake (sym (guest-seated s)) ∙ same_stake 0 ∙ ap stake (guest-seated (seat_at t j))

  sound_guest_lem : (p : ℕ) → p < 3 → SoundGuest t.options (is_dealt t) (up t) j (guest_at s p)
  sound_guest_lem p h =
      other_purse t.options (is_dealt t) (up t) j (guest_at s p) (guest_of t j p) (d.same_money p) d.acting.within
      (omega (arith, d.prizes_grow p, d.purse_pays p, d.laid_grows p, (was.guests p h).prizes_back)) (was.guests p h)

  same_cover : (p : ℕ) → seat_cover (guest_at s p) ≡ seat_cover (guest_of t j p)
  same_cover p = ap (λ (m : Money). cover m.stake + side_cover m.sides) (d.same_money p)

  change : SeatChange t j tray s shoe k 0 0
  change =
      record {
        within = d.acting.within;
        shaped_seat = d.shaped_seat;
        sound_seat_lem =
            record {
              guests = sound_guest_lem;
              seated_first_lem = λ p h none. same_stake p ∙ was.seated_first_lem p h (omega (arith, same-seated));
              waiting = λ none dealt. absurd (omega arith);
              playing = λ some. d.playing;
            };
        same_staked = λ dealt. ap (ltb 0) same-seated;
        same_cover = λ dealt. omega (arith, same_cover 0, same_cover 1, same_cover 2);
        paid =
            omega (
              arith,
              d.laid_grows 0,
              d.laid_grows 1,
              d.laid_grows 2,
              d.purse_pays 0,
              d.purse_pays 1,
              d.purse_pays 2,
              d.tray_pays,
            );
        in_limit = omega (arith, sound.money);
        prizes_paid = λ dealt. omega (arith, d.prizes_grow 0, d.prizes_grow 1, d.prizes_grow 2, d.tray_pays);
        same_order = d.draws.same_order;
        same_discards = d.draws.same_discards;
        same_discarded = d.draws.same_discarded;
        more_drawn = d.draws.more_drawn;
        same_begun = d.draws.same_begun;
        drawn_before = λ some. dealt-drawn t sound d.acting.dealt;
        enough = d.draws.enough;
        cards_moved = d.cards_moved;
      }

module _ (opening : List ℕ) (es : List Entry) (t : Table) (e : Entry) (j tray : ℕ) (s : Seat) (shoe : Shoe) (k : ℕ) (more won : ℕ → ℕ) (good : Good opening es t) (d : Decided t e j tray s shoe k more won) where
  -- the history's seat and guests, whose values the table's are
  history : SeatAgrees t.options opening es j (seat_at t j)
  history = good.agrees.seats j

  lays-history : (p : ℕ) → lays j p (stake_in es j p) e ≡ more (stake (guest_of t j p))
  lays-history p = d.lays_it p (stake_in es j p) ∙ ap more (sym (history.guests p).stake_is)

  wins-history : (p : ℕ) → prize_of t.options opening es j p e ≡ won (stake (guest_of t j p))
  wins-history p =
      let c = cards_of_history t.options opening es in
      ap₂ (λ (S : ℕ) (hs : List Played). wins t.options c j S hs e) (sym (history.guests p).stake_is) (sym history.hands_are)
      ∙ d.wins_it c good.agrees.cards (stake (guest_of t j p))

  hands-history : (c : Cards) → CardsAgree c t
      → hands s ≡ makes (hands_in t.options opening es j) (waiting_place t.options (get_or c.bank 0 0) (hands_in t.options opening es j)) c e
  hands-history c agree =
      d.hands_are c agree
      ∙ ap (λ (b : List ℕ). makes (hands (seat_at t j)) (waiting_place t.options (get_or b 0 0) (hands (seat_at t j))) c e) agree.bank
      ∙ ap (λ (hs : List Played). makes hs (waiting_place t.options (get_or c.bank 0 0) hs) c e) history.hands_are

  goes : is_surrender e ≡ false → turn_in t.options (cards_of_history t.options opening es) (λ k. hands_in t.options opening es k) ≡ j
  goes in_turn_lem = history_turn opening es t good.agrees j (d.turn_is in_turn_lem)

  -- the seat has a hand, so its first cards are the history's
  first-history : (c : Cards) → CardsAgree c t → first_cards s ≡ keeps (hands_in t.options opening es j) (first_in t.options opening es j) c e
  first-history c agree =
      let seat = staked_seat t good.shaped good.sound j d.acting in
      let some : 0 < length (hands (seat_at t j)) = omega (arith, many_hands (seat_at t j).hands seat.shaped.four_places, seat.some, seat.few) in
      d.first_is c agree ∙ ap₂ (λ (hs : List Played) (first : List ℕ). keeps hs first c e) history.hands_are (history.first_is some)

  guest-agrees : (p : ℕ) → GuestAgrees t.options opening (e ∷ es) j p (guest_at s p)
  guest-agrees p =
      let o = t.options in
      let was = history.guests p in
      record {
        stake_is = ap (λ (m : Money). m.stake) (d.same_money p) ∙ was.stake_is ∙ sym (stake-after e j d.deciding o opening es p);
        insurance_is = ap (λ (m : Money). m.insurance) (d.same_money p) ∙ was.insurance_is ∙ sym (insurance-after e j d.deciding o opening es p);
        sides_are = λ k h.
            ap (λ (m : Money). get_or m.sides k 0) (d.same_money p)
            ∙ was.sides_are k h
            ∙ sym (sides_stay es j p e (not_end e d.deciding.among refl) (not_side e d.deciding.among refl) k h);
        laid_is =
            let l : laid (guest_at s p) ≡ lays j p (stake_in es j p) e + laid_in es j p = omega (arith, d.laid_grows p, was.laid_is, lays-history p) in
            l ∙ sym (laid-after e j d.deciding o opening es p);
        prizes_are =
            let w : prizes o (guest_at s p) ≡ prize_of o opening es j p e + prizes_in o opening es j p = omega (arith, d.prizes_grow p, was.prizes_are, wins-history p) in
            w ∙ sym (prizes-after e j d.deciding o opening es p);
        purse_is =
            purse-after e j d.deciding o opening es p (purse (guest_of t j p)) (purse (guest_at s p)) was.purse_is
            (omega (arith, d.purse_pays p, lays-history p, wins-history p));
      }

  seat-agrees : SeatAgrees t.options opening (e ∷ es) j s
  seat-agrees =
      let c = cards_of_history t.options opening es in
      record {
        hands_are = hands-history c good.agrees.cards ∙ sym (hands-after e j d.deciding t.options opening es goes c refl);
        first_is = λ some. first-history c good.agrees.cards ∙ sym (first-after e j d.deciding t.options opening es goes c refl);
        guests = guest-agrees;
      }

  call : SeatCall opening es t e j tray s shoe k
  call =
      let among = d.deciding.among in
      record {
        not_end = not_end e among refl;
        not_deal = not_deal e among refl;
        not_load = not_load e among refl;
        of_other = of_other e j d.deciding;
        takes = d.takes (staked_below es t.options.seats) (cards_of_history t.options opening es);
        same_order = d.draws.same_order;
        more_drawn = d.draws.more_drawn;
        others = hands-others e j d.deciding t.options opening es goes;
        first-others = first-others e j d.deciding t.options opening es goes;
        events = d.events;
        seat = seat-agrees;
        money = simp (not_fill e among refl, not_credit e among refl, not_buy e among refl, not_cash e among refl) (omega (arith, change_money t j tray s shoe k 0 0 good.shaped good.sound (change t e j tray s shoe k more won good.sound d)));
      }

-- what a call decides: from the conditions, on any sound table
pub record Decision (t : Table) (e : Entry) (after : Table) : Type 0 where
  pub j : ℕ
  pub tray : ℕ
  pub seat : Seat
  pub shoe : Shoe
  pub k : ℕ
  pub more : ℕ → ℕ
  pub won : ℕ → ℕ
  pub is : after ≡ changed t j tray seat shoe
  pub decided : Decided t e j tray seat shoe k more won

-- it keeps any sound table sound, and a table that agrees with a history in agreement
module _ (t : Table) (e : Entry) (after : Table) (d : Decision t e after) where
  pub decision-kept : Shaped t → Sound t → Shaped after × Sound after
  decision-kept shaped sound =
      let moves = change t e d.j d.tray d.seat d.shoe d.k d.more d.won sound d.decided in
      subst (λ (x : Table). Shaped x × Sound x) (sym d.is)
      (change_shaped t d.j d.tray d.seat d.shoe d.k 0 0 shaped sound moves, change_sound t d.j d.tray d.seat d.shoe d.k 0 0 shaped sound moves)

  pub decision_good : (opening : List ℕ) (es : List Entry) → Good opening es t → Good opening (e ∷ es) after
  decision_good opening es good =
      subst (Good opening (e ∷ es)) (sym d.is)
      (one_call opening es t e d.j d.tray d.seat d.shoe d.k 0 0 good
      (change t e d.j d.tray d.seat d.shoe d.k d.more d.won good.sound d.decided)
      (call opening es t e d.j d.tray d.seat d.shoe d.k d.more d.won good d.decided))
