-- An accepted cash keeps the table good: the purse holds the amount, and what leaves the purse leaves the table.
use mathlib.Core.Path.{◌≡◌, refl, sym, ◌∙◌}
use mathlib.Core.Bool.{and-false}
use mathlib.Core.List.{List, ◌∷◌}
use Prim.Native.Nat.{ℕ, ◌-◌, ◌≤◌, ◌<◌}
use native.Mathlib.Omega.{arith}
use borrow.Author.Tests.{ltb-false, eqb-false}
use Rattle.lists.specs.Tests.{all_of}
use Rattle.lists.proofs.Tests.{cond_same}
use Rattle.call.specs.declared.At.{At}
use Rattle.call.specs.declared.Call.TheVariants.{Cash}
use Rattle.call.specs.Refusal.{first}
use Rattle.call.proofs.Refusals.{none_hold}
use Rattle.table.specs.declared.Table.{Table}
use Rattle.table.specs.Guest.{with_purse}
use Rattle.table.specs.Seat.{purse}
use Rattle.table.specs.Table.{guest_of}
use Rattle.table.specs.Shape.{Shaped}
use Rattle.table.specs.Aids.Sound.{Sound}
use Rattle.history.specs.Entry.{Entry}
use Rattle.history.specs.Aids.MakeEntry.{entry}
use Rattle.history.specs.Money.{lays}
use Rattle.agreement.specs.Aids.Agrees.{Good}
use Rattle.agreement.proofs.Quiet.{sides_stay}
use Rattle.answer.specs.Conditions.{seat_conditions, guest_conditions}
use Rattle.cashier_spec.specs.Cash.{cash_conditions, cash_effect}
use Rattle.cashier_spec.proofs.Purse.{GuestBetween, guest_between, PurseMoves, purse-kept, purse_good}

-- what an accepted cash says
pub record CashAccepted (t : Table) (j p n : ℕ) : Type 0 where
  pub guest : GuestBetween t j p
  pub some : 0 < n
  pub enough : n ≤ purse (guest_of t j p)

module _ (t : Table) (j p n : ℕ) (e : first (cash_conditions t j p n) ≡ 0) where
  pub cash-accepted : CashAccepted t j p n
  unfolding cash_conditions guest_conditions seat_conditions all_of
  cash-accepted =
      let (unbroken, (between, (such-seat, (such-position, (some, (enough, _)))))) = none_hold (cash_conditions t j p n) refl e in
      record {
        guest = guest_between t j p unbroken between such-seat such-position;
        some = omega (arith, eqb-false n 0 some);
        enough = ltb-false (purse (guest_of t j p)) n enough;
      }

  cash-moves : Sound t → PurseMoves t j p (with_purse (guest_of t j p).money (purse (guest_of t j p) - n)) 0 n
  cash-moves sound =
      let a = cash-accepted in
      let was = (sound.seats j a.guest.nine).guests p a.guest.position in
      record {
        guest = a.guest;
        fits = was.stake_fits;
        grows = omega arith;
        seated_stakes = λ beside. (sound.seats j a.guest.nine).seated_first_lem p a.guest.position;
        sides_fit = was.sides_fit;
        as_many = refl;
        pays = omega (arith, a.enough);
        same_insurance = refl;
        in_limit = omega (arith, sound.money);
      }

pub cash-kept : (t : Table) (j p n : ℕ) → Shaped t → Sound t → first (cash_conditions t j p n) ≡ 0 → Shaped (cash_effect t j p n) × Sound (cash_effect t j p n)
unfolding cash_effect
cash-kept t j p n shaped sound e = purse-kept (cash-moves t j p n e sound) shaped sound

pub cash_good : (opening : List ℕ) (es : List Entry) (t : Table) (at : At) (n : ℕ) (order : List ℕ) → Good opening es t → first (cash_conditions t at.seat at.position n) ≡ 0
    → Good opening (entry (Cash at n) order ∷ es) (cash_effect t at.seat at.position n)
unfolding cash_effect lays
cash_good opening es t at n order g e =
    let j = at.seat in
    let p = at.position in
    purse_good (entry (Cash at n) order) (cash-moves t j p n e g.sound) g
    (record {
      among = refl;
      seat_is = refl;
      position_is = refl;
      stakes = ((g.agrees.seats j).guests p).stake_is;
      sides_are = λ k h. ((g.agrees.seats j).guests p).sides_are k h ∙ sym (sides_stay es j p (entry (Cash at n) order) refl refl k h);
      lays_more = simp (and-false, cond_same) (omega arith);
      buys = refl;
      cashes = refl;
    })
