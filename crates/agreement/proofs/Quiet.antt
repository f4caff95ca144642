-- What a call does not touch: the values of a seat that it does not name, the money of every seat where the call is of neither a purse nor a guest,
-- and every value of a seat where it is of the house.
use mathlib.Core.Path.{◌≡◌, refl, sym, ◌∙◌, ap}
use mathlib.Core.Bool.{false, ◌&&◌, ◌||◌, and-false}
use mathlib.Core.List.{List, ◌∷◌}
use Prim.Native.Nat.{ℕ, ◌+◌, ◌<◌}
use native.Mathlib.Nat.{add-zero}
use native.Mathlib.Omega.{arith}
use Rattle.lists.proofs.Tests.{cond_same, or_eq_false}
use lib.Dec.{eqb}
use lib.IntN.{pos}
use lib.ListN.{get_or}
use Rattle.options.specs.declared.Options.{Options}
use Rattle.table.specs.declared.Money.{Money}
use Rattle.table.specs.declared.Seat.{Seat}
use Rattle.table.specs.Seat.{guest_at, purse, laid, prizes}
use Rattle.history.specs.Entry.{Entry, is_of, is_by, is_buy, is_cash, is_stake, is_deal, is_insure, is_stand, is_draw, is_double, is_split, is_surrender, is_even, is_five, is_drawing, is_decision, is_end, is_load, is_side, is_side_of}
use Rattle.history.specs.Rounds.{stake_in, side_in}
use Rattle.history.specs.Cards.{cards_after, call_takes, bank_after, cards_of_history}
use Rattle.history.specs.Hands.{turn_in, hands_after, hands_in, decide, first_after, first_in}
use Rattle.history.specs.Money.{lays, wins, prize_of}
use Rattle.agreement.specs.Aids.Agrees.{GuestAgrees, SeatAgrees}
use Rattle.agreement.proofs.Groups.{InGroup, of_house, of_purse, not_buy, not_cash, not_stake, not_side, not_side_of, not_deal, not_insure, not_draw, not_double, not_split, not_decision, not_close, not_void, not_end, not_drawing, no_drawing}
use Rattle.agreement.proofs.Purse.{purse_moves}

-- a call that is no side stake leaves those of every guest
pub sides_stay : (es : List Entry) (i p : ℕ) (e : Entry) → is_end e ≡ false → is_side e ≡ false → (k : ℕ) → k < 4 → side_in (e ∷ es) i p (k + 1) ≡ side_in es i p (k + 1)
sides_stay es i p e no_end none k h = simp (no_end, not_side_of e none k h)

-- a call that deals nothing, ends nothing and does not split in the seat leaves its first cards
pub first_stay : (o : Options) (opening : List ℕ) (es : List Entry) (i : ℕ) (e : Entry) → is_deal e ≡ false → is_end e ≡ false
    → is_split e && eqb i (turn_in o (cards_of_history o opening es) (λ k. hands_in o opening es k)) ≡ false
    → first_in o opening (e ∷ es) i ≡ first_in o opening es i
unfolding first_after
first_stay o opening es i e no_deal no_end none = simp (no_deal, no_end, none)

-- what a guest holds, and so what agrees, is the same of two with the same money, laid and won
pub guest-alike : (o : Options) (opening : List ℕ) (es : List Entry) (i p : ℕ) (r s : Seat) → r.money ≡ s.money → laid r ≡ laid s → prizes o r ≡ prizes o s
    → GuestAgrees o opening es i p s → GuestAgrees o opening es i p r
guest-alike o opening es i p r s money same-laid same_prizes a =
    record {
      stake_is = ap (λ (m : Money). m.stake) money ∙ a.stake_is;
      insurance_is = ap (λ (m : Money). m.insurance) money ∙ a.insurance_is;
      sides_are = λ k h. ap (λ (m : Money). get_or m.sides k 0) money ∙ a.sides_are k h;
      laid_is = same-laid ∙ a.laid_is;
      prizes_are = same_prizes ∙ a.prizes_are;
      purse_is = ap (λ (m : Money). pos m.purse) money ∙ a.purse_is;
    }

-- a call that lays nothing for a guest in position p of seat i, wins nothing for it and moves no money of its own
pub record Untouched (o : Options) (opening : List ℕ) (es : List Entry) (i p : ℕ) (e : Entry) : Type 0 where
  pub no_end : is_end e ≡ false
  pub no_stake_lem : is_stake e && is_by i p e ≡ false
  pub no_insurance : is_insure e && is_by i p e ≡ false
  pub no_side : (k : ℕ) → k < 4 → is_side_of (k + 1) e && is_by i p e ≡ false
  pub no_buy : is_buy e && is_by i p e ≡ false
  pub no_cash : is_cash e && is_by i p e ≡ false
  pub no_laying : lays i p (stake_in es i p) e ≡ 0
  pub no_prize : prize_of o opening es i p e ≡ 0

pub untouched_guest : (o : Options) (opening : List ℕ) (es : List Entry) (i p : ℕ) (e : Entry) → Untouched o opening es i p e → (s : Seat) → GuestAgrees o opening es i p s → GuestAgrees o opening (e ∷ es) i p s
untouched_guest o opening es i p e u s a =
    record {
      stake_is = a.stake_is ∙ sym (simp (u.no_end, u.no_stake_lem));
      insurance_is = a.insurance_is ∙ sym (simp (u.no_end, u.no_insurance));
      sides_are = λ k h. a.sides_are k h ∙ sym (simp (u.no_end, u.no_side k h));
      laid_is = a.laid_is ∙ sym (simp u.no_end (omega (arith, u.no_laying)));
      prizes_are = a.prizes_are ∙ sym (simp u.no_end (omega (arith, u.no_prize)));
      purse_is = purse_moves o opening es i p e u.no_end (purse s) (purse s) a.purse_is (simp (u.no_buy, u.no_cash) (omega (arith, u.no_laying, u.no_prize)));
    }

-- a call that does not name the seat
module _ (o : Options) (opening : List ℕ) (es : List Entry) (i : ℕ) (e : Entry) (no_end : is_end e ≡ false) (not-of : is_of i e ≡ false) where
  lays_none : (p S : ℕ) → lays i p S e ≡ 0
  unfolding lays
  lays_none p S = simp not-of

  prize-none : (p : ℕ) → prize_of o opening es i p e ≡ 0
  unfolding wins
  prize-none p = simp not-of

  other-guests : (p : ℕ) → Untouched o opening es i p e
  other-guests p =
      record {
        no_end = no_end;
        no_stake_lem = simp (not-of, and-false);
        no_insurance = simp (not-of, and-false);
        no_side = λ k h. simp (not-of, and-false);
        no_buy = simp (not-of, and-false);
        no_cash = simp (not-of, and-false);
        no_laying = lays_none p (stake_in es i p);
        no_prize = prize-none p;
      }

  pub other_seat : hands_in o opening (e ∷ es) i ≡ hands_in o opening es i → first_in o opening (e ∷ es) i ≡ first_in o opening es i → (s : Seat) → SeatAgrees o opening es i s → SeatAgrees o opening (e ∷ es) i s
  other_seat hands-other first-other s a =
      record {
        hands_are = a.hands_are ∙ sym hands-other;
        first_is = λ some. a.first_is some ∙ sym first-other;
        guests = λ p. untouched_guest o opening es i p e (other-guests p) (guest_at s p) (a.guests p);
      }

-- a call that draws no card, doubles and splits nothing
module _ (o : Options) (opening : List ℕ) (es : List Entry) (i p : ℕ) (e : Entry) (none : is_drawing e ≡ false) where
  pub prize-undrawn : prize_of o opening es i p e ≡ 0
  unfolding wins
  prize-undrawn = let (draw, double, split) = not_drawing e none in simp (draw, double, and-false)

  -- which is of another guest
  lays-by : is_by i p e ≡ false → lays i p (stake_in es i p) e ≡ 0
  unfolding lays
  lays-by not-by = let (draw, double, split) = not_drawing e none in simp (double, split, not-by, cond_same)

  pub other_guest : is_end e ≡ false → is_by i p e ≡ false → Untouched o opening es i p e
  other_guest no_end not-by =
      record {
        no_end = no_end;
        no_stake_lem = simp (not-by, and-false);
        no_insurance = simp (not-by, and-false);
        no_side = λ k h. simp (not-by, and-false);
        no_buy = simp (not-by, and-false);
        no_cash = simp (not-by, and-false);
        no_laying = lays-by not-by;
        no_prize = prize-undrawn;
      }

  -- which is of no purse and no insurance
  module _ {g : ℕ} (among : InGroup e g) (no_purse : eqb of_purse g ≡ false) (no_insure : is_insure e ≡ false) where
    pub lays_unmoved : lays i p (stake_in es i p) e ≡ 0
    unfolding lays
    lays_unmoved =
        let (draw, double, split) = not_drawing e none in
        simp (double, split, not_stake e among no_purse, not_side e among no_purse, no_insure, and-false, cond_same)

    pub no_money : is_end e ≡ false → Untouched o opening es i p e
    no_money no_end =
        record {
          no_end = no_end;
          no_stake_lem = simp (not_stake e among no_purse);
          no_insurance = simp no_insure;
          no_side = λ k h. simp (not_side_of e (not_side e among no_purse) k h);
          no_buy = simp (not_buy e among no_purse);
          no_cash = simp (not_cash e among no_purse);
          no_laying = lays_unmoved;
          no_prize = prize-undrawn;
        }

-- a call that is no decision changes no hand, whosever turn it is
pub hands_stay : (o : Options) (opening : List ℕ) (es : List Entry) (i : ℕ) (e : Entry) → is_deal e ≡ false → is_end e ≡ false → is_decision e ≡ false
    → hands_in o opening (e ∷ es) i ≡ hands_in o opening es i
unfolding hands_after decide
hands_stay o opening es i e no_deal no_end none =
    let (others, draws) = or_eq_false (is_stand e || is_surrender e || is_even e || is_five e) (is_drawing e) none in
    let (three, five) = or_eq_false (is_stand e || is_surrender e || is_even e) (is_five e) others in
    let (two, even) = or_eq_false (is_stand e || is_surrender e) (is_even e) three in
    let (stand, surrender) = or_eq_false (is_stand e) (is_surrender e) two in
    let (both, split) = or_eq_false (is_draw e || is_double e) (is_split e) draws in
    let (draw, double) = or_eq_false (is_draw e) (is_double e) both in
    simp (no_deal, no_end, surrender, stand, draw, double, split, even, five) (cond_same (eqb i (turn_in o (cards_of_history o opening es) (λ k. hands_in o opening es k))) (hands_in o opening es i))

-- a call of the house changes no value of a seat
pub house-seat : (o : Options) (opening : List ℕ) (es : List Entry) (i : ℕ) (e : Entry) → InGroup e of_house → (s : Seat) → SeatAgrees o opening es i s → SeatAgrees o opening (e ∷ es) i s
house-seat o opening es i e h s a =
    let ends-none = not_end e h refl in
    let decides-none = not_decision e h refl in
    record {
      hands_are = a.hands_are ∙ sym (hands_stay o opening es i e (not_deal e h refl) ends-none decides-none);
      first_is = λ some. a.first_is some ∙ sym (first_stay o opening es i e (not_deal e h refl) ends-none (simp (not_split e h refl)));
      guests = λ p. untouched_guest o opening es i p e (no_money o opening es i p e (no_drawing e decides-none) h refl (not_insure e h refl) ends-none) (guest_at s p) (a.guests p);
    }

-- the history's cards stay at such a call, unless it is a load
pub house-cards : (o : Options) (opening : List ℕ) (es : List Entry) (e : Entry) → InGroup e of_house → is_load e ≡ false → cards_of_history o opening (e ∷ es) ≡ cards_of_history o opening es
unfolding cards_after call_takes bank_after
house-cards o opening es e h no_load_lem =
    simp (no_load_lem, not_deal e h refl, not_draw e h refl, not_double e h refl, not_split e h refl, not_close e h refl, not_void e h refl, add-zero)
