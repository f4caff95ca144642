-- A call of one guest's money (buy, cash, stake, side stakes, insure) keeps the table good: the other guests of the seat and the other seats keep what they have, and no
-- card is drawn.
use mathlib.Core.Path.{◌≡◌, refl, sym, ◌∙◌}
use mathlib.Core.Bool.{true, false, cond, and-true, and-false}
use mathlib.Core.List.{List, ◌∷◌}
use Prim.Native.Nat.{ℕ, ◌+◌, ◌<◌}
use native.Mathlib.Decide.{ℕ_discrete}
use native.Mathlib.Omega.{arith}
use lib.ListN.{length, get_or}
use borrow.Author.Tests.{eq-eqb, ne_eqb}
use Rattle.lists.proofs.Tests.{or_eq_false}
use Rattle.call.specs.Call.{seat, position}
use Rattle.table.specs.declared.Money.{Money}
use Rattle.table.specs.declared.Seat.{Seat}
use Rattle.table.specs.declared.Table.{Table}
use Rattle.table.specs.Seat.{with_money, guest_at, with_guest, purse, hands, laid, prizes}
use Rattle.table.specs.Table.{with_seat, seat_at, guest_of}
use Rattle.table.proofs.Guests.{put_here, put_other, put-hands, put_first, at-put, at_other, of_laid, of_prizes}
use Rattle.options.proofs.Facts.{in_range_facts}
use Rattle.table.proofs.SeatChange.{change_money}
use Rattle.table.proofs.GuestChange.{GuestChange, guest_change}
use Rattle.history.specs.Entry.{Entry, is_by, is_fill, is_credit, is_buy, is_cash, is_deal, is_draw, is_double, is_split, is_close, is_void, is_decision, is_end, is_load, amount_of}
use Rattle.history.specs.Rounds.{stake_in, insurance_in, side_in}
use Rattle.history.specs.Cards.{call_takes}
use Rattle.history.specs.Hands.{hands_in, first_in}
use Rattle.history.specs.Money.{lays}
use Rattle.agreement.specs.Aids.Agrees.{GuestAgrees, SeatAgrees, Good}
use Rattle.agreement.proofs.Groups.{not_drawing, no_drawing}
use Rattle.agreement.proofs.Purse.{purse_moves}
use Rattle.agreement.proofs.Quiet.{guest-alike, untouched_guest, other_guest, prize-undrawn, hands_stay, first_stay}
use Rattle.agreement.proofs.Events.{no_event}
use Rattle.agreement.proofs.OneSeat.{one_call}

-- a call that moves money of the guest in position p of seat j alone
pub record OfMoney (e : Entry) (j p : ℕ) : Type 0 where
  pub seat_is : seat e.call ≡ j
  pub position_is : position e.call ≡ p
  pub not_fill : is_fill e ≡ false
  pub not_credit : is_credit e ≡ false
  pub not_load : is_load e ≡ false
  pub not_deal : is_deal e ≡ false
  pub not_decision : is_decision e ≡ false
  pub not_end : is_end e ≡ false

-- what the history says of the guest's new money
pub record GuestCall (es : List Entry) (t : Table) (e : Entry) (j p : ℕ) (m : Money) (came went : ℕ) : Type 0 where
  pub of_money : OfMoney e j p
  pub stake_is : m.stake ≡ stake_in (e ∷ es) j p
  pub insurance_is : m.insurance ≡ insurance_in (e ∷ es) j p
  pub sides_are : (k : ℕ) → k < 4 → get_or m.sides k 0 ≡ side_in (e ∷ es) j p (k + 1)
  pub lays_more : laid (with_money (seat_at t j) m) ≡ laid (guest_of t j p) + lays j p (stake_in es j p) e
  pub same_prizes : prizes t.options (with_money (seat_at t j) m) ≡ prizes t.options (guest_of t j p)
  pub buys : cond (is_buy e) (amount_of e) 0 ≡ came
  pub cashes : cond (is_cash e) (amount_of e) 0 ≡ went

module _ (opening : List ℕ) (es : List Entry) (t : Table) (e : Entry) (j p : ℕ) (m : Money) (came went : ℕ) (g : Good opening es t) (change : GuestChange t j p m came went) (call : GuestCall es t e j p m came went) where
  of : OfMoney e j p
  of = call.of_money

  abbrev now : Seat
  now = with_guest (seat_at t j) p m

  undrawn : (is_draw e ≡ false) × (is_double e ≡ false) × (is_split e ≡ false)
  undrawn = not_drawing e (no_drawing e of.not_decision)

  same-hands : (i : ℕ) → hands_in t.options opening (e ∷ es) i ≡ hands_in t.options opening es i
  same-hands i = hands_stay t.options opening es i e of.not_deal of.not_end of.not_decision

  same_first : (i : ℕ) → first_in t.options opening (e ∷ es) i ≡ first_in t.options opening es i
  same_first i = first_stay t.options opening es i e of.not_deal of.not_end (simp undrawn.2)

  -- the guest, as if alone at the seat
  alone : GuestAgrees t.options opening (e ∷ es) j p (with_money (seat_at t j) m)
  alone =
      let a = (g.agrees.seats j).guests p in
      let undrawn-prize = prize-undrawn t.options opening es j p e (no_drawing e of.not_decision) in
      let by : is_by j p e ≡ true = simp (eq-eqb (seat e.call) j of.seat_is, eq-eqb (position e.call) p of.position_is) in
      record {
        stake_is = call.stake_is;
        insurance_is = call.insurance_is;
        sides_are = call.sides_are;
        laid_is = simp of.not_end (omega (arith, a.laid_is, call.lays_more));
        prizes_are = simp of.not_end (omega (arith, a.prizes_are, call.same_prizes, undrawn-prize));
        purse_is =
            purse_moves t.options opening es j p e of.not_end (purse (guest_of t j p)) m.purse a.purse_is
            (simp (by, and-true) (omega (arith, call.buys, call.cashes, change.paid, call.lays_more, undrawn-prize)));
      }

  two : length (seat_at t j).others ≡ 2
  two = (g.shaped.seats j (omega (arith, (in_range_facts t.options g.sound.options).seats_most, change.within))).two_others

  -- each guest of the seat
  guest-after : (q : ℕ) → Dec (q ≡ p) → GuestAgrees t.options opening (e ∷ es) j q (guest_at now q)
  guest-after q (yes same) =
      rw same
      (guest-alike t.options opening (e ∷ es) j p (guest_at now p) (with_money (seat_at t j) m) (put_here (seat_at t j) p m two change.position)
      (at-put laid of_laid (seat_at t j) p m two change.position) (at-put (prizes t.options) (of_prizes t.options) (seat_at t j) p m two change.position) alone)
  guest-after q (no other) =
      let not-by : is_by j q e ≡ false = simp (ne_eqb (position e.call) q (λ same. other (omega (arith, of.position_is))), and-false) in
      guest-alike t.options opening (e ∷ es) j q (guest_at now q) (guest_of t j q) (put_other (seat_at t j) p q m other)
      (at_other laid of_laid (seat_at t j) p q m other) (at_other (prizes t.options) (of_prizes t.options) (seat_at t j) p q m other)
      (untouched_guest t.options opening es j q e (other_guest t.options opening es j q e (no_drawing e of.not_decision) of.not_end not-by) (guest_of t j q) ((g.agrees.seats j).guests q))

  seat-after : SeatAgrees t.options opening (e ∷ es) j now
  seat-after =
      let a = g.agrees.seats j in
      record {
        hands_are = rw (put-hands (seat_at t j) p m) a.hands_are ∙ sym (same-hands j);
        first_is = rw (put-hands (seat_at t j) p m, put_first (seat_at t j) p m) (λ some. a.first_is some ∙ sym (same_first j));
        guests = λ q. guest-after q (ℕ_discrete q p);
      }

  pub one-guest : Good opening (e ∷ es) (with_seat t j (with_guest (seat_at t j) p m))
  unfolding call_takes
  one-guest =
      let moves = guest_change t j p m came went g.shaped g.sound change in
      let (close, void) = or_eq_false (is_close e) (is_void e) of.not_end in
      one_call opening es t e j t.tray now t.shoe 0 came went g moves
      (record {
        not_end = of.not_end;
        not_deal = of.not_deal;
        not_load = of.not_load;
        of_other = λ i other. ne_eqb (seat e.call) i (λ same. other (omega (arith, of.seat_is)));
        takes = simp (of.not_deal, undrawn.0, undrawn.1, undrawn.2, close);
        same_order = refl;
        more_drawn = omega arith;
        others = λ i other. same-hands i;
        first-others = λ i other. same_first i;
        events = rw (put-hands (seat_at t j) p m) (no_event e (hands (seat_at t j)) of.not_decision);
        seat = seat-after;
        money =
            simp (of.not_fill, of.not_credit)
            (omega (arith, change_money t j t.tray now t.shoe 0 came went g.shaped g.sound moves, call.buys, call.cashes));
      })
