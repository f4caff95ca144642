-- An accepted opening gives a table that is good: nothing is on it but the loaded order, and the history has no call yet.
use mathlib.Core.Path.{◌≡◌, refl, sym, ◌∙◌, ap, subst}
use mathlib.Core.Bool.{true, true≢false}
use mathlib.Core.List.{List, []}
use Prim.Native.Nat.{ℕ, zero, suc, ◌≤◌, ◌<◌}
use native.Mathlib.Decide.{dec_le}
use native.Mathlib.Omega.{arith}
use lib.IntN.{pos}
use lib.ListN.{length, get_or, replicate, length-replicate, get_or-replicate, get_or-eq_default}
use borrow.Author.Tests.{eq-eqb, not-false}
use Rattle.lists.specs.Sum.{sum_of}
use Rattle.lists.specs.Tests.{any_of, all_of}
use Rattle.lists.specs.Flat.{flat}
use Rattle.lists.proofs.Tests.{cond_same}
use Rattle.call.specs.Refusal.{first}
use Rattle.call.proofs.Refusals.{none_hold}
use Rattle.options.specs.declared.Options.{Options}
use Rattle.options.specs.Device.{is_machine}
use Rattle.options.specs.Ranges.{in_range}
use Rattle.options.proofs.Facts.{in_range_facts}
use Rattle.rules.specs.declared.seat_hand.SeatHand.{SeatHand}
use Rattle.rules.specs.Drew.{seat_drew}
use Rattle.rules.specs.declared.seat_hand.SeatHands.{SeatHands}
use Rattle.table.specs.declared.Money.{Money}
use Rattle.table.specs.declared.Seat.{Seat}
use Rattle.table.specs.Guest.{holding}
use Rattle.table.specs.Seat.{empty_seat, missing_seat, missing_place, empty_place, guest_at, purse, laid}
use Rattle.table.specs.Shoe.{valid_order, burns_first}
use Rattle.table.specs.Table.{seat_at, is_dealt, up}
use Rattle.table.specs.Progress.{any_drew, any_decided}
use Rattle.table.specs.Shape.{Shaped, ShapedSeat}
use Rattle.table.specs.Aids.Sound.{Sound, SoundSeat, NoBets}
use Rattle.table.proofs.Guests.{guest-hands, guest_beyond, guest_missing}
use Rattle.table.proofs.Facts.{no_money, nothing-laid, unstaked_prizes}
use Rattle.agreement.specs.Aids.Agrees.{GuestAgrees, SeatAgrees, Agrees, Good}
use Rattle.cashier_spec.specs.Opening.{open_conditions, open_number, open_table, opened}
use Rattle.cashier_spec.proofs.Order.{valid_length, loaded, loaded_length}

-- what an accepted opening says
pub record OpeningAccepted (o : Options) (order : List ℕ) : Type 0 where
  pub in_range_lem : in_range o ≡ true
  pub valid : valid_order o.decks order ≡ true

pub opening-accepted : (o : Options) (order : List ℕ) → first (open_conditions o order) ≡ 0 → OpeningAccepted o order
unfolding open_conditions all_of
opening-accepted o order e =
    let (in_range_lem, (valid, _)) = none_hold (open_conditions o order) refl e in
    record { in_range_lem = not-false (in_range o) in_range_lem; valid = not-false (valid_order o.decks order) valid }

-- the order has room in the array
pub open_fits : (o : Options) (order : List ℕ) → first (open_conditions o order) ≡ 0 → length order ≤ 416
open_fits o order e =
    let a = opening-accepted o order e in
    omega (arith, valid_length o.decks order a.valid, (in_range_facts o a.in_range_lem).decks_most)

empty-at : (i : ℕ) → i < 9 → get_or (replicate 9 empty_seat) i missing_seat ≡ empty_seat
empty-at i h = get_or-replicate 9 i empty_seat missing_seat h

-- each guest of an empty seat holds nothing
empty-guest : (p : ℕ) → p < 3 → (guest_at empty_seat p).money ≡ holding 0
unfolding guest_at
empty-guest zero h = refl
empty-guest (suc zero) h = refl
empty-guest (suc (suc zero)) h = refl
empty-guest (suc (suc (suc p))) h = absurd (omega arith)

empty-bets : (p : ℕ) → (purse (guest_at empty_seat p) ≡ 0) × NoBets (guest_at empty_seat p)
empty-bets p = go (dec_le 3 p)
  where
    go : Dec (3 ≤ p) → (purse (guest_at empty_seat p) ≡ 0) × NoBets (guest_at empty_seat p)
    go (yes h) = no_money (guest_at empty_seat p) (guest_beyond empty_seat p (omega arith))
    go (no h) =
        let new = empty-guest p (omega arith) in (
          ap (λ (m : Money). m.purse) new,
          record { no_stake_lem = ap (λ (m : Money). m.stake) new; no_insurance = ap (λ (m : Money). m.insurance) new; no_sides = λ k l. ap (λ (m : Money). get_or m.sides k 0) new ∙ get_or-replicate {A = ℕ} 4 k 0 0 l },
        )

empty_shaped : ShapedSeat empty_seat
empty_shaped =
    record {
      four_places = refl;
      two_others = refl;
      four_sides = λ p h. ap (λ (m : Money). length m.sides) (empty-guest p h);
      three_first = refl;
      twenty_cards = λ p h. ap (λ (x : SeatHand). length x.hand.cards) (get_or-replicate 4 p empty_place missing_place h);
    }

-- a seat that holds nothing
module _ (o : Options) (order : List ℕ) (i : ℕ) where
  empty-sound : SoundSeat o (is_dealt (open_table o order)) (up (open_table o order)) i empty_seat
  empty-sound =
      record {
        guests = λ p h.
            let (empty, none) = empty-bets p in
            record {
              beyond = λ far. record { no_purse = empty; no_bets = none; no_hands = ap (λ (x : SeatHands). x.many) (guest-hands empty_seat p) };
              stake_fits = λ some. absurd (omega (arith, none.no_stake_lem));
              insured = λ some. absurd (omega (arith, none.no_insurance));
              sides_fit = λ k l some. absurd (omega (arith, none.no_sides k l));
              prizes_back = omega (arith, unstaked_prizes o (guest_at empty_seat p) none.no_stake_lem);
            };
        seated_first_lem = λ p h none. (empty-bets p).1.no_stake_lem;
        waiting = λ h dealt. refl;
        playing = λ h. absurd (omega arith);
      }

  -- which the history has not either
  guest-agrees : (p : ℕ) (s : Seat) → (purse s ≡ 0) × NoBets s → GuestAgrees o order [] i p s
  guest-agrees p s (empty, none) =
      record {
        stake_is = none.no_stake_lem;
        insurance_is = none.no_insurance;
        sides_are = none.no_sides;
        laid_is = nothing-laid s none;
        prizes_are = unstaked_prizes o s none.no_stake_lem;
        purse_is = ap pos empty;
      }

  empty-agrees : SeatAgrees o order [] i empty_seat
  empty-agrees = record { hands_are = refl; first_is = λ some. absurd (omega arith); guests = λ p. guest-agrees p (guest_at empty_seat p) (empty-bets p) }

  none-agrees : SeatAgrees o order [] i missing_seat
  none-agrees = record { hands_are = refl; first_is = λ some. absurd (omega arith); guests = λ p. guest-agrees p (guest_at missing_seat p) (no_money (guest_at missing_seat p) (guest_missing p)) }

  seat-agrees : SeatAgrees o order [] i (seat_at (open_table o order) i)
  seat-agrees = go (dec_le 9 i)
    where
      go : Dec (9 ≤ i) → SeatAgrees o order [] i (seat_at (open_table o order) i)
      go (yes h) = subst (SeatAgrees o order [] i) (sym (get_or-eq_default (replicate 9 empty_seat) missing_seat {n = i} h)) none-agrees
      go (no h) = subst (SeatAgrees o order [] i) (sym (empty-at i (omega arith))) empty-agrees

module _ (o : Options) (order : List ℕ) (a : OpeningAccepted o order) where
  open-shaped : Shaped (open_table o order)
  open-shaped =
      record {
        nine_seats_lem = refl;
        seats = λ i h. subst ShapedSeat (sym (empty-at i h)) empty_shaped;
        bank = refl;
        order = loaded_length o.decks order a.valid 0 (omega (arith, (in_range_facts o a.in_range_lem).decks_most));
        discards = length-replicate {A = ℕ} 416 0;
      }

  open-sound : Sound (open_table o order)
  unfolding sum_of flat laid guest_at
  open-sound =
      record {
        options = a.in_range_lem;
        begun = omega arith;
        begun_drawn = λ some. absurd (omega arith);
        valid = subst (λ (cards : List ℕ). valid_order o.decks cards ≡ true) (sym (loaded o.decks order a.valid 0)) a.valid;
        drawn = omega arith;
        discarded = omega arith;
        discarded_drawn = omega arith;
        discards = λ k h. absurd (omega arith);
        faces = λ b h. refl;
        number = refl;
        seats = λ i h. subst (SoundSeat o (is_dealt (open_table o order)) (up (open_table o order)) i) (sym (empty-at i h)) (empty-sound o order i);
        bank = λ some. absurd (omega arith);
        round = λ dealt. absurd (true≢false (sym dealt));
        money = omega arith;
        cover = λ dealt. absurd (true≢false (sym dealt));
      }

  open-agrees : Agrees order [] (open_table o order)
  unfolding sum_of laid any_drew any_decided seat_drew any_of burns_first guest_at
  open-agrees =
      record {
        cards = record { order = loaded o.decks order a.valid 0; taken = refl; fresh = cond_same (is_machine o) true; bank = refl };
        dealt = refl;
        seats = λ i. seat-agrees o order i;
        drew = refl;
        decided = refl;
        balance = refl;
      }

-- the table of an accepted opening
pub accepted_table : (o : Options) (order : List ℕ) → open_number o order ≡ 0 → opened o order ≡ open_table o order
unfolding opened
accepted_table o order e = simp (eq-eqb (open_number o order) 0 e)

pub open_good : (o : Options) (order : List ℕ) → open_number o order ≡ 0 → Good order [] (opened o order)
unfolding open_number
open_good o order e =
    let a = opening-accepted o order e in
    subst (Good order []) (sym (accepted_table o order e))
    (record { shaped = open-shaped o order a; sound = open-sound o order a; agrees = open-agrees o order a })
