-- An accepted buy keeps the table good: the purse and the history's money grow by the same amount.
use mathlib.Core.Path.{◌≡◌, refl, sym, ◌∙◌, ap}
use mathlib.Core.Bool.{and-false}
use mathlib.Core.List.{List, ◌∷◌}
use Prim.Native.Nat.{ℕ, ◌+◌, ◌≤◌, ◌<◌}
use native.Mathlib.Decide.{dec_le}
use native.Mathlib.Omega.{arith}
use lib.ListN.{length, get_or-eq_default}
use borrow.Author.Tests.{ltb-false, eqb-false}
use Rattle.lists.specs.Tests.{all_of}
use Rattle.lists.proofs.Sums.{sum_has}
use Rattle.lists.proofs.Tests.{cond_same}
use Rattle.call.specs.declared.At.{At}
use Rattle.call.specs.declared.Call.TheVariants.{Buy}
use Rattle.call.specs.Refusal.{first}
use Rattle.call.proofs.Refusals.{none_hold}
use Rattle.table.specs.declared.Money.{Money}
use Rattle.table.specs.declared.Table.{Table}
use Rattle.table.specs.Guest.{with_purse}
use Rattle.table.specs.Seat.{missing_seat, over_guests, purse}
use Rattle.table.specs.Table.{seat_at, guest_of}
use Rattle.table.specs.Money.{most_money, all_money}
use Rattle.table.specs.Shape.{Shaped}
use Rattle.table.specs.Aids.Sound.{Sound}
use Rattle.table.proofs.Guests.{guest_missing, over_has}
use Rattle.history.specs.Entry.{Entry}
use Rattle.history.specs.Aids.MakeEntry.{entry}
use Rattle.history.specs.Money.{lays}
use Rattle.agreement.specs.Aids.Agrees.{Good}
use Rattle.agreement.proofs.Quiet.{sides_stay}
use Rattle.answer.specs.Conditions.{seat_conditions, guest_conditions}
use Rattle.cashier_spec.specs.Buy.{buy_conditions, buy_effect}
use Rattle.cashier_spec.proofs.Purse.{GuestBetween, guest_between, PurseMoves, purse-kept, purse_good}

-- what an accepted buy says
pub record BuyAccepted (t : Table) (j p n : ℕ) : Type 0 where
  pub guest : GuestBetween t j p
  pub some : 0 < n
  pub in_limit : all_money t + n ≤ most_money

module _ (t : Table) (j p n : ℕ) (e : first (buy_conditions t j p n) ≡ 0) where
  pub buy-accepted : BuyAccepted t j p n
  unfolding buy_conditions guest_conditions seat_conditions all_of
  buy-accepted =
      let (unbroken, (between, (such-seat, (such-position, (some, (in_limit, _)))))) = none_hold (buy_conditions t j p n) refl e in
      record {
        guest = guest_between t j p unbroken between such-seat such-position;
        some = omega (arith, eqb-false n 0 some);
        in_limit = ltb-false most_money (all_money t + n) in_limit;
      }

  -- the new purse is within the limit too
  pub buy-fits : purse (guest_of t j p) + n ≤ most_money
  buy-fits = go (dec_le (length t.seats) j)
    where
      go : Dec (length t.seats ≤ j) → purse (guest_of t j p) + n ≤ most_money
      go (yes beyond) =
          rw (get_or-eq_default t.seats missing_seat {n = j} beyond)
          (omega (arith, buy-accepted.in_limit, ap (λ (m : Money). m.purse) (guest_missing p)))
      go (no within) =
          omega (
            arith,
            buy-accepted.in_limit,
            over_has purse (seat_at t j) p buy-accepted.guest.position,
            sum_has (over_guests purse) t.seats j missing_seat (omega arith),
          )

  buy-moves : Sound t → PurseMoves t j p (with_purse (guest_of t j p).money (purse (guest_of t j p) + n)) n 0
  buy-moves sound =
      let a = buy-accepted in
      let was = (sound.seats j a.guest.nine).guests p a.guest.position in
      record {
        guest = a.guest;
        fits = was.stake_fits;
        grows = omega arith;
        seated_stakes = λ beside. (sound.seats j a.guest.nine).seated_first_lem p a.guest.position;
        sides_fit = was.sides_fit;
        as_many = refl;
        pays = omega arith;
        same_insurance = refl;
        in_limit = omega (arith, a.in_limit);
      }

pub buy-kept : (t : Table) (j p n : ℕ) → Shaped t → Sound t → first (buy_conditions t j p n) ≡ 0 → Shaped (buy_effect t j p n) × Sound (buy_effect t j p n)
unfolding buy_effect
buy-kept t j p n shaped sound e = purse-kept (buy-moves t j p n e sound) shaped sound

pub buy_good : (opening : List ℕ) (es : List Entry) (t : Table) (at : At) (n : ℕ) (order : List ℕ) → Good opening es t → first (buy_conditions t at.seat at.position n) ≡ 0
    → Good opening (entry (Buy at n) order ∷ es) (buy_effect t at.seat at.position n)
unfolding buy_effect lays
buy_good opening es t at n order g e =
    let j = at.seat in
    let p = at.position in
    purse_good (entry (Buy at n) order) (buy-moves t j p n e g.sound) g
    (record {
      among = refl;
      seat_is = refl;
      position_is = refl;
      stakes = ((g.agrees.seats j).guests p).stake_is;
      sides_are = λ k h. ((g.agrees.seats j).guests p).sides_are k h ∙ sym (sides_stay es j p (entry (Buy at n) order) refl refl k h);
      lays_more = simp (and-false, cond_same) (omega arith);
      buys = refl;
      cashes = refl;
    })
