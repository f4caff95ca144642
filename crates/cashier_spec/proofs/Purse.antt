-- buy, cash, stake and side stakes change one guest's money between rounds: the seat has no hand then, so what the guest has laid is the stake and the side stakes. A
-- table stays good when these and the purse change by what comes onto the table and what leaves it.
use mathlib.Core.Path.{◌≡◌, refl, sym, ◌∙◌, ap}
use mathlib.Core.Bool.{true, false, cond, true≢false}
use mathlib.Core.List.{List, ◌∷◌}
use Prim.Native.Nat.{ℕ, ◌+◌, ◌≤◌, ◌<◌}
use native.Mathlib.Omega.{arith}
use lib.Dec.{leb}
use lib.ListN.{length, get_or}
use borrow.Author.Tests.{leb-false}
use Rattle.rules.specs.declared.seat_hand.SeatHands.{SeatHands}
use Rattle.payment.specs.Bets.{all_sides}
use Rattle.call.specs.Call.{seat, position}
use Rattle.table.specs.declared.Money.{Money}
use Rattle.table.specs.declared.Seat.{Seat}
use Rattle.table.specs.declared.Table.{Table}
use Rattle.table.specs.Seat.{with_money, with_guest, purse, stake, insurance, sides}
use Rattle.table.specs.Table.{with_seat, seat_at, guest_of, no_such_seat, is_dealt, up}
use Rattle.table.specs.Money.{most_money, all_money}
use Rattle.table.specs.Broken.{broken}
use Rattle.options.specs.Permitted.{stake_permitted, most_side}
use Rattle.table.specs.Shape.{Shaped}
use Rattle.table.specs.Aids.Sound.{Sound, SoundGuest}
use Rattle.table.proofs.Guests.{guest-hands}
use Rattle.table.proofs.Facts.{seat_of-nine, laid-stake, no_prizes}
use Rattle.table.proofs.SeatChange.{change_shaped, change_sound}
use Rattle.table.proofs.GuestChange.{GuestChange, guest_change}
use Rattle.history.specs.Entry.{Entry, is_buy, is_cash, amount_of}
use Rattle.history.specs.Rounds.{stake_in, side_in}
use Rattle.history.specs.Money.{lays}
use Rattle.agreement.specs.Aids.Agrees.{Good}
use Rattle.agreement.proofs.Groups.{InGroup, of_purse, not_fill, not_credit, not_load, not_deal, not_insure, not_decision, not_end}
use Rattle.agreement.proofs.OneGuest.{one-guest}
use Rattle.cashier_spec.proofs.BetweenRounds.{no_hand}

-- what the first conditions of these calls say of the table, the seat and the position
pub record GuestBetween (t : Table) (j p : ℕ) : Type 0 where
  pub unbroken : broken t ≡ false
  pub between : is_dealt t ≡ false
  pub within : j < t.options.seats
  pub nine : j < 9
  pub position : p < 3

pub guest_between : (t : Table) (j p : ℕ) → broken t ≡ false → is_dealt t ≡ false → no_such_seat t j ≡ false → leb 3 p ≡ false → GuestBetween t j p
guest_between t j p unbroken between such-seat such-position =
    record {
      unbroken = unbroken;
      between = between;
      within = leb-false t.options.seats j such-seat;
      nine = seat_of-nine t j unbroken such-seat;
      position = leb-false 3 p such-position;
    }

-- what such a call must give: `came` is money that comes onto the table by it, `went` money that leaves it
pub record PurseMoves (t : Table) (j p : ℕ) (m : Money) (came went : ℕ) : Type 0 where
  pub guest : GuestBetween t j p
  pub fits : 0 < m.stake → stake_permitted t.options m.stake ≡ true
  pub grows : stake (guest_of t j p) ≤ m.stake
  pub seated_stakes : (p ≡ 0 → ⊥) → stake (seat_at t j) ≡ 0 → m.stake ≡ 0
  pub sides_fit : (k : ℕ) → k < 4 → 0 < get_or m.sides k 0 → (0 < m.stake) × (get_or m.sides k 0 ≤ most_side)
  pub as_many : length m.sides ≡ length (sides (guest_of t j p))
  pub pays : m.purse + went + m.stake + all_sides m.sides ≡ purse (guest_of t j p) + came + stake (guest_of t j p) + all_sides (sides (guest_of t j p))
  pub same_insurance : m.insurance ≡ insurance (guest_of t j p)
  pub in_limit : all_money t + came ≤ most_money + went

module _ {t : Table} {j p : ℕ} {m : Money} {came went : ℕ} (moves : PurseMoves t j p m came went) (shaped : Shaped t) (sound : Sound t) where
  -- the guest with the new money, as if alone at the seat
  abbrev alone : Seat
  alone = with_money (seat_at t j) m

  no_hands : (seat_at t j).hands.many ≡ 0
  no_hands = no_hand t j moves.guest.nine sound moves.guest.between

  guest-no-hands : (guest_of t j p).hands.many ≡ 0
  guest-no-hands = ap (λ (x : SeatHands). x.many) (guest-hands (seat_at t j) p) ∙ no_hands

  not-dealt : {A : Type 0} → is_dealt t ≡ true → A
  not-dealt dealt = absurd (true≢false (sym dealt ∙ moves.guest.between))

  sound-alone : SoundGuest t.options (is_dealt t) (up t) j alone
  sound-alone =
      record {
        beyond = λ h. absurd (omega (arith, moves.guest.within));
        stake_fits = moves.fits;
        insured = λ h. not-dealt (((sound.seats j moves.guest.nine).guests p moves.guest.position).insured (omega (arith, moves.same_insurance))).in_round_lem;
        sides_fit = moves.sides_fit;
        prizes_back = omega (arith, no_prizes t.options alone no_hands);
      }

  change : GuestChange t j p m came went
  change =
      record {
        within = moves.guest.within;
        position = moves.guest.position;
        as_many = moves.as_many ∙ (shaped.seats j moves.guest.nine).four_sides p moves.guest.position;
        sound_guest_lem = sound-alone;
        grows = moves.grows;
        same_stake = not-dealt;
        seated_stakes = moves.seated_stakes;
        same_cover = not-dealt;
        same_prizes = not-dealt;
        paid = omega (arith, moves.pays, laid-stake alone no_hands, laid-stake (guest_of t j p) guest-no-hands);
        in_limit = moves.in_limit;
      }

  abbrev after : Table
  after = with_seat t j (with_guest (seat_at t j) p m)

  pub purse-kept : Shaped after × Sound after
  purse-kept =
      let s = with_guest (seat_at t j) p m in
      let seat-change = guest_change t j p m came went shaped sound change in
      (change_shaped t j t.tray s t.shoe 0 came went shaped sound seat-change, change_sound t j t.tray s t.shoe 0 came went shaped sound seat-change)

-- what the history says of the call
pub record Told (es : List Entry) (t : Table) (e : Entry) (j p : ℕ) (m : Money) (came went : ℕ) : Type 0 where
  pub among : InGroup e of_purse
  pub seat_is : seat e.call ≡ j
  pub position_is : position e.call ≡ p
  pub stakes : m.stake ≡ stake_in (e ∷ es) j p
  pub sides_are : (k : ℕ) → k < 4 → get_or m.sides k 0 ≡ side_in (e ∷ es) j p (k + 1)
  pub lays_more : m.stake + all_sides m.sides ≡ stake (guest_of t j p) + all_sides (sides (guest_of t j p)) + lays j p (stake_in es j p) e
  pub buys : cond (is_buy e) (amount_of e) 0 ≡ came
  pub cashes : cond (is_cash e) (amount_of e) 0 ≡ went

pub purse_good : {opening : List ℕ} {es : List Entry} {t : Table} {j p : ℕ} {m : Money} {came went : ℕ} (e : Entry) → PurseMoves t j p m came went → Good opening es t
    → Told es t e j p m came went
    → Good opening (e ∷ es) (with_seat t j (with_guest (seat_at t j) p m))
purse_good {opening} {es} {t} {j} {p} {m} {came} {went} e moves g told =
    let none = no_hands moves g.shaped g.sound in
    let guest-none = guest-no-hands moves g.shaped g.sound in
    let among = told.among in
    one-guest opening es t e j p m came went g (change moves g.shaped g.sound)
    (record {
      of_money =
          record {
            seat_is = told.seat_is;
            position_is = told.position_is;
            not_fill = not_fill e among refl;
            not_credit = not_credit e among refl;
            not_load = not_load e among refl;
            not_deal = not_deal e among refl;
            not_decision = not_decision e among refl;
            not_end = not_end e among refl;
          };
      stake_is = told.stakes;
      insurance_is = moves.same_insurance ∙ ((g.agrees.seats j).guests p).insurance_is ∙ sym (simp (not_end e among refl, not_insure e among refl));
      sides_are = told.sides_are;
      lays_more = omega (arith, told.lays_more, laid-stake (with_money (seat_at t j) m) none, laid-stake (guest_of t j p) guest-none);
      same_prizes = no_prizes t.options (with_money (seat_at t j) m) none ∙ sym (no_prizes t.options (guest_of t j p) guest-none);
      buys = told.buys;
      cashes = told.cashes;
    })
