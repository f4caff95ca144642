-- A call that ends a round, close or void, keeps the agreement: no guest has a stake, an insurance or a prize left, no seat a hand, and what the
-- call adds to a purse is given.
use mathlib.Core.Path.{◌≡◌, refl, sym, ◌∙◌, ap, subst}
use mathlib.Core.Bool.{true}
use mathlib.Core.List.{List, [], ◌∷◌, map}
use Prim.Native.Nat.{ℕ, ◌+◌, ◌*◌, ◌≤◌}
use native.Mathlib.Decide.{dec_le}
use native.Mathlib.Omega.{arith}
use lib.IntN.{pos}
use lib.ListN.{length, take, length-map, get_or-eq_default}
use Rattle.lists.specs.Tests.{any_of}
use Rattle.lists.proofs.Places.{view_map}
use Rattle.lists.proofs.Differences.{Diff}
use Rattle.options.specs.declared.Options.{Options}
use Rattle.rules.specs.Drew.{seat_drew}
use Rattle.table.specs.declared.Seat.{Seat}
use Rattle.table.specs.declared.Shoe.{Shoe}
use Rattle.table.specs.declared.Table.{Table}
use Rattle.table.specs.Guest.{missing_money}
use Rattle.table.specs.Seat.{missing_seat, guest_at, purse, hands}
use Rattle.table.specs.Table.{seat_at, guest_of}
use Rattle.table.specs.Shape.{Shaped}
use Rattle.table.specs.Aids.Sound.{NoBets}
use Rattle.table.proofs.Guests.{guest_beyond, guest_missing}
use Rattle.table.proofs.Facts.{no_money, nothing-laid, unstaked_prizes}
use Rattle.table.proofs.RoundEnd.{RoundEnd, cleared, round_ended, cleared_at, cleared-purse, cleared-bets, end_shaped, end-sound, end_money}
use Rattle.history.specs.Entry.{Entry, is_end}
use Rattle.history.specs.Rounds.{staked_below}
use Rattle.history.specs.Cards.{Cards, make_cards, call_takes, bank_after, cards_after, cards_of_history}
use Rattle.history.specs.Hands.{hands_after}
use Rattle.history.specs.Money.{laid_ever, prizes_ever, bought, cashed, ends_brought, end_brings, purse_of}
use Rattle.agreement.specs.Aids.Agrees.{SeatAgrees, CardsAgree, Good}
use Rattle.agreement.proofs.Fresh.{still_fresh}
use Rattle.agreement.proofs.Groups.{InGroup, of_end, not_fill, not_credit, not_load, not_buy, not_cash, not_deal, not_insure, not_decision, no_drawing}
use Rattle.agreement.proofs.Purse.{purse_law}
use Rattle.agreement.proofs.Quiet.{lays_unmoved, prize-undrawn}
use Rattle.agreement.proofs.Events.{seat_decided, nobody-decided}

-- a call that ends a round
pub record Ends (e : Entry) : Type 0 where
  pub among : InGroup e of_end
  pub is_end_lem : is_end e ≡ true

module _ (o : Options) (opening : List ℕ) (es : List Entry) (i : ℕ) (e : Entry) (h : Ends e) where
  -- a guest's purse changes by what the ended round adds
  pub purse-end : (p x next plus minus : ℕ) → Diff (end_brings o opening es i p e) plus minus → pos x ≡ purse_of o opening es i p → next + minus ≡ x + plus → pos next ≡ purse_of o opening (e ∷ es) i p
  purse-end p x next plus minus d was moved =
      let none = no_drawing e (not_decision e h.among refl) in
      purse_law x next (bought es i p) (cashed es i p) (laid_ever es i p) (prizes_ever o opening es i p) _ _ _ _ (ends_brought o opening es i p) (end_brings o opening es i p e) plus minus d was
      (simp (not_buy e h.among refl, not_cash e h.among refl)
      (omega (arith, lays_unmoved o opening es i p e none h.among refl (not_insure e h.among refl), prize-undrawn o opening es i p e none)))

  -- the seat after it, where none of its guests has a bet
  end-seat : (s : Seat) → hands s ≡ [] → ((p : ℕ) → NoBets (guest_at s p)) → ((p : ℕ) → pos (purse (guest_at s p)) ≡ purse_of o opening (e ∷ es) i p) → SeatAgrees o opening (e ∷ es) i s
  unfolding hands_after
  end-seat s empty none purses =
      record {
        hands_are = empty ∙ sym (simp (not_deal e h.among refl, h.is_end_lem));
        first_is = λ some. absurd (omega (arith, ap length empty));
        guests = λ p.
            record {
              stake_is = (none p).no_stake_lem ∙ sym (simp h.is_end_lem);
              insurance_is = (none p).no_insurance ∙ sym (simp h.is_end_lem);
              sides_are = λ k l. (none p).no_sides k l ∙ sym (simp h.is_end_lem);
              laid_is = nothing-laid (guest_at s p) (none p) ∙ sym (simp h.is_end_lem);
              prizes_are = unstaked_prizes o (guest_at s p) (none p).no_stake_lem ∙ sym (simp h.is_end_lem);
              purse_is = purses p;
            };
      }

module _ (opening : List ℕ) (es : List Entry) (t : Table) (e : Entry) (tray : ℕ) (purse-of : Seat → ℕ) (shoe : Shoe) (k : ℕ) where
  pub record EndCall : Type 0 where
    pub ends : Ends e
    pub takes : call_takes t.options (staked_below es t.options.seats) (cards_of_history t.options opening es) e ≡ k
    pub purses : (i p : ℕ) → pos (purse-of (guest_of t i p)) ≡ purse_of t.options opening (e ∷ es) i p

  -- the history's cards after the call
  cards-after : EndCall → (c : Cards) → c ≡ cards_of_history t.options opening es → cards_of_history t.options opening (e ∷ es) ≡ make_cards c.order c.fresh (c.taken + k) []
  unfolding cards_after bank_after
  cards-after call c same = simp (not_load e call.ends.among refl, not_deal e call.ends.among refl, call.ends.is_end_lem, call.takes, same)

  -- the seat of any number, one that the table has or not
  seat-after : Shaped t → RoundEnd t tray purse-of shoe k → EndCall → (i : ℕ) → SeatAgrees t.options opening (e ∷ es) i (seat_at (round_ended t tray purse-of shoe) i)
  seat-after shaped end call i = go (dec_le (length t.seats) i)
    where
      nothing : (s : Seat) → s.money ≡ missing_money → purse-of s ≡ 0
      nothing s none = let (empty, bets) = no_money s none in end.nothing_stays s empty bets

      go : Dec (length t.seats ≤ i) → SeatAgrees t.options opening (e ∷ es) i (seat_at (round_ended t tray purse-of shoe) i)
      go (yes beyond) =
          rw (get_or-eq_default (map (cleared purse-of) t.seats) missing_seat {n = i} (omega (arith, length-map t.seats (cleared purse-of))))
          (end-seat t.options opening es i e call.ends missing_seat refl (λ p. (no_money (guest_at missing_seat p) (guest_missing p)).1)
          (λ p.
          let same : seat_at t i ≡ missing_seat = get_or-eq_default t.seats missing_seat {n = i} beyond in
          ap pos ((no_money (guest_at missing_seat p) (guest_missing p)).0 ∙ sym (nothing (guest_at missing_seat p) (guest_missing p)) ∙ ap (λ (s : Seat). purse-of (guest_at s p)) (sym same))
          ∙ call.purses i p))
      go (no within) =
          rw (cleared_at purse-of t.seats i (omega arith))
          (end-seat t.options opening es i e call.ends (cleared purse-of (seat_at t i)) refl (cleared-bets purse-of (seat_at t i))
          (λ p.
          ap pos (cleared-purse purse-of (seat_at t i) p (λ far.
          nothing (guest_of t i p) (guest_beyond (seat_at t i) p (omega (arith, (shaped.seats i (omega (arith, shaped.nine_seats_lem))).two_others)))))
          ∙ call.purses i p))

  pub end_call : Good opening es t → RoundEnd t tray purse-of shoe k → EndCall → Good opening (e ∷ es) (round_ended t tray purse-of shoe)
  unfolding any_of seat_drew
  end_call g end call =
      let c = cards_of_history t.options opening es in
      let a = g.agrees in
      let q = call.ends in
      let now : cards_of_history t.options opening (e ∷ es) ≡ make_cards c.order c.fresh (c.taken + k) [] = cards-after call c refl in
      let undecided = nobody-decided (round_ended t tray purse-of shoe) (λ i h. ap seat_decided (view_map hands (cleared purse-of) t.seats i missing_seat refl)) in
      record {
        shaped = end_shaped t tray purse-of shoe k g.shaped g.sound end;
        sound = end-sound t tray purse-of shoe k g.shaped g.sound end;
        agrees =
            record {
              cards =
                  subst (λ (x : Cards). CardsAgree x (round_ended t tray purse-of shoe)) (sym now)
                  (record {
                    order = ap (take (52 * t.options.decks)) end.same_order ∙ a.cards.order;
                    taken = end.more_drawn ∙ ap (λ (n : ℕ). n + k) a.cards.taken;
                    fresh = still_fresh t.options t.shoe shoe k end.same_begun end.more_drawn end.drawn_before ∙ a.cards.fresh;
                    bank = refl;
                  });
              dealt = sym (simp q.is_end_lem);
              seats = seat-after g.shaped end call;
              drew = undecided.0 ∙ sym (simp q.is_end_lem);
              decided = undecided.1 ∙ sym (simp q.is_end_lem);
              balance =
                  simp (not_fill e q.among refl, not_buy e q.among refl, not_credit e q.among refl, not_cash e q.among refl)
                  (omega (arith, end_money t tray purse-of shoe k g.shaped g.sound end, a.balance));
            };
      }
