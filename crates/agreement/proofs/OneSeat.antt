-- A call of one seat keeps the agreement: the other seats' values stay, and the cards drawn grow by as many as the call takes.
use mathlib.Core.Path.{◌≡◌, refl, sym, ◌∙◌, ap, subst}
use mathlib.Core.Bool.{Bool, false, cond, ◌||◌}
use mathlib.Core.List.{List, ◌∷◌}
use Prim.Native.Nat.{ℕ, ◌+◌, ◌*◌, ◌<◌}
use native.Mathlib.Decide.{ℕ_discrete}
use native.Mathlib.Omega.{arith}
use lib.ListN.{length, set, take}
use lib.Seq.{get_or-set_same, get_or-set_other}
use Rattle.table.specs.declared.Seat.{Seat}
use Rattle.table.specs.declared.Shoe.{Shoe}
use Rattle.table.specs.declared.Table.{Table}
use Rattle.table.specs.Seat.{missing_seat, hands}
use Rattle.table.specs.Shoe.{burns_first}
use Rattle.table.specs.Table.{make_table, seat_at}
use Rattle.table.specs.Money.{all_money}
use Rattle.options.proofs.Facts.{in_range_facts}
use Rattle.table.proofs.SeatChange.{SeatChange, change_shaped, change_sound}
use Rattle.history.specs.Entry.{Entry, is_of, is_deal, is_drawing, is_decision, is_end, is_load, is_fill, is_credit, is_buy, is_cash, amount_of}
use Rattle.history.specs.Rounds.{staked_below}
use Rattle.history.specs.Cards.{Cards, make_cards, call_takes, bank_after, cards_after, cards_of_history}
use Rattle.history.specs.Hands.{hands_in, first_in}
use Rattle.agreement.specs.Aids.Agrees.{SeatAgrees, CardsAgree, Agrees, Good}
use Rattle.agreement.proofs.Fresh.{still_fresh}
use Rattle.agreement.proofs.Quiet.{other_seat}
use Rattle.agreement.proofs.Events.{Events, seat_events}

module _ (opening : List ℕ) (es : List Entry) (t : Table) (e : Entry) (j tray : ℕ) (s : Seat) (shoe : Shoe) (k : ℕ) where
  abbrev after : Table
  after = make_table t.options tray (set t.seats j s) t.bank shoe

  pub record SeatCall : Type 0 where
    pub not_end : is_end e ≡ false
    pub not_deal : is_deal e ≡ false
    pub not_load : is_load e ≡ false
    pub of_other : (i : ℕ) → (i ≡ j → ⊥) → is_of i e ≡ false
    pub takes : call_takes t.options (staked_below es t.options.seats) (cards_of_history t.options opening es) e ≡ k
    pub same_order : shoe.order ≡ t.shoe.order
    pub more_drawn : shoe.drawn ≡ t.shoe.drawn + k
    pub others : (i : ℕ) → (i ≡ j → ⊥) → hands_in t.options opening (e ∷ es) i ≡ hands_in t.options opening es i
    pub first-others : (i : ℕ) → (i ≡ j → ⊥) → first_in t.options opening (e ∷ es) i ≡ first_in t.options opening es i
    pub events : Events e (hands (seat_at t j)) (hands s)
    pub seat : SeatAgrees t.options opening (e ∷ es) j s
    pub money : all_money after + cond (is_credit e || is_cash e) (amount_of e) 0 ≡ all_money t + cond (is_fill e || is_buy e) (amount_of e) 0

  -- the history's cards after the call
  cards-after : SeatCall → (c : Cards) → c ≡ cards_of_history t.options opening es
      → cards_of_history t.options opening (e ∷ es) ≡ make_cards c.order c.fresh (c.taken + k) c.bank
  unfolding cards_after bank_after
  cards-after call c same = simp (call.not_load, call.not_deal, call.not_end, call.takes, same)

  one-seat : length t.seats ≡ 9 → j < 9 → burns_first t.options shoe ≡ burns_first t.options t.shoe → Agrees opening es t → SeatCall → Agrees opening (e ∷ es) after
  one-seat nine within same-burn a call =
      let c = cards_of_history t.options opening es in
      let now : cards_of_history t.options opening (e ∷ es) ≡ make_cards c.order c.fresh (c.taken + k) c.bank = cards-after call c refl in
      let (drew-now, decided-now) = seat_events t after j s refl (omega arith) e call.events in
      record {
        cards =
            subst (λ (x : Cards). CardsAgree x after) (sym now)
            (record {
              order = ap (take (52 * t.options.decks)) call.same_order ∙ a.cards.order;
              taken = call.more_drawn ∙ ap (λ (n : ℕ). n + k) a.cards.taken;
              fresh = same-burn ∙ a.cards.fresh;
              bank = a.cards.bank;
            });
        dealt = a.dealt ∙ sym (simp (call.not_end, call.not_deal));
        seats = λ i. each i (ℕ_discrete i j);
        drew = drew-now ∙ ap (λ (b : Bool). is_drawing e || b) a.drew ∙ sym (simp call.not_end);
        decided = decided-now ∙ ap (λ (b : Bool). is_decision e || b) a.decided ∙ sym (simp call.not_end);
        balance = omega (arith, call.money, a.balance);
      }
    where
      each : (i : ℕ) → Dec (i ≡ j) → SeatAgrees t.options opening (e ∷ es) i (seat_at after i)
      each i (yes same) =
          subst (λ (n : ℕ). SeatAgrees t.options opening (e ∷ es) n (seat_at after n)) (sym same)
          (rw (get_or-set_same t.seats j s missing_seat (omega arith)) call.seat)
      each i (no other) =
          rw (get_or-set_other t.seats j i s missing_seat other)
          (other_seat t.options opening es i e call.not_end (call.of_other i other) (call.others i other) (call.first-others i other) (seat_at t i) (a.seats i))

  -- such a call keeps the table good
  pub one_call : (came went : ℕ) → Good opening es t → SeatChange t j tray s shoe k came went → SeatCall → Good opening (e ∷ es) after
  one_call came went g change call =
      let most = (in_range_facts t.options g.sound.options).seats_most in
      record {
        shaped = change_shaped t j tray s shoe k came went g.shaped g.sound change;
        sound = change_sound t j tray s shoe k came went g.shaped g.sound change;
        agrees =
            one-seat g.shaped.nine_seats_lem (omega (arith, change.within))
            (still_fresh t.options t.shoe shoe k change.same_begun change.more_drawn change.drawn_before)
            g.agrees call;
      }
