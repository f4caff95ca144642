-- An accepted stake keeps the table good: the seat had none and its purse holds it, so the amount goes from purse to layout.
use mathlib.Core.Path.{◌≡◌, refl, sym, ◌∙◌, ap}
use mathlib.Core.Bool.{Bool, true, false, not, ◌&&◌, and-true, and-eq-true_iff, true≢false}
use mathlib.Core.List.{List, ◌∷◌}
use Prim.Native.Nat.{ℕ, ◌≤◌, ◌<◌}
use native.Mathlib.Omega.{arith}
use lib.Dec.{leb, eqb}
use borrow.Author.Tests.{ltb-true, ltb-false, leb-true, eq-eqb, ne_eqb, eqb-false, not-false}
use Rattle.lists.specs.Tests.{all_of}
use Rattle.call.specs.declared.At.{At}
use Rattle.call.specs.declared.Call.TheVariants.{Stake}
use Rattle.call.specs.Refusal.{first}
use Rattle.call.proofs.Refusals.{none_hold}
use Rattle.options.specs.Permitted.{stake_permitted}
use Rattle.table.specs.declared.Table.{Table}
use Rattle.table.specs.Guest.{staking}
use Rattle.table.specs.Seat.{purse, stake, is_staked}
use Rattle.table.specs.Table.{seat_at, guest_of}
use Rattle.table.specs.Shape.{Shaped}
use Rattle.table.specs.Aids.Sound.{Sound}
use Rattle.table.proofs.Facts.{unbroken, sound_options}
use Rattle.history.specs.Entry.{Entry}
use Rattle.history.specs.Aids.MakeEntry.{entry}
use Rattle.history.specs.Money.{lays}
use Rattle.agreement.specs.Aids.Agrees.{Good}
use Rattle.agreement.proofs.Quiet.{sides_stay}
use Rattle.answer.specs.Conditions.{seat_conditions, guest_conditions}
use Rattle.cashier_spec.specs.Stake.{stake_conditions, stake_effect}
use Rattle.cashier_spec.proofs.Purse.{GuestBetween, guest_between, PurseMoves, purse-kept, purse_good}

-- what an accepted stake says
pub record StakeAccepted (t : Table) (j p n : ℕ) : Type 0 where
  pub guest : GuestBetween t j p
  pub unstaked : stake (guest_of t j p) ≡ 0
  pub seated : (p ≡ 0 → ⊥) → 0 < stake (seat_at t j)
  pub some : 0 < n
  pub permitted : stake_permitted t.options n ≡ true
  pub enough : n ≤ purse (guest_of t j p)

module _ (t : Table) (j p n : ℕ) (e : first (stake_conditions t j p n) ≡ 0) where
  pub stake-accepted : StakeAccepted t j p n
  unfolding stake_conditions guest_conditions seat_conditions all_of
  stake-accepted =
      let (unbroken, (between, (such-seat, (such-position, (unstaked, (seated, (some, (permitted, (enough, _))))))))) = none_hold (stake_conditions t j p n) refl e in
      record {
        guest = guest_between t j p unbroken between such-seat such-position;
        unstaked = omega (arith, ltb-false 0 (stake (guest_of t j p)) unstaked);
        seated = λ beside. ltb-true 0 (stake (seat_at t j)) (seated-staked (is_staked (seat_at t j)) (ne_eqb p 0 beside) seated);
        some = omega (arith, eqb-false n 0 some);
        permitted = not-false (stake_permitted t.options n) permitted;
        enough = ltb-false (purse (guest_of t j p)) n enough;
      }
    where
      seated-staked : (b : Bool) → eqb p 0 ≡ false → not (eqb p 0) && not b ≡ false → b ≡ true
      seated-staked true beside none = refl
      seated-staked false beside none = absurd (true≢false (sym (ap not beside) ∙ (sym (and-true (not (eqb p 0))) ∙ none)))

  -- the largest stake that an option can be bounds it
  pub stake_fits : n ≤ 1000000
  unfolding stake_permitted
  stake_fits =
      let a = stake-accepted in
      let o = t.options in
      let (in_range_lem, even) = (and-eq-true_iff (leb o.smallest n && leb n o.largest) _).0 a.permitted in
      let (least, most) = (and-eq-true_iff (leb o.smallest n) _).0 in_range_lem in
      omega (arith, leb-true n o.largest most, (sound_options t (unbroken t a.guest.unbroken)).largest_most)

  stake-moves : Sound t → PurseMoves t j p (staking (guest_of t j p).money n) 0 0
  stake-moves sound =
      let a = stake-accepted in
      record {
        guest = a.guest;
        fits = λ h. a.permitted;
        grows = omega (arith, a.unstaked);
        seated_stakes = λ beside none. absurd (omega (arith, a.seated beside));
        sides_fit = λ k h some. (a.some, (((sound.seats j a.guest.nine).guests p a.guest.position).sides_fit k h some).1);
        as_many = refl;
        pays = omega (arith, a.unstaked, a.enough);
        same_insurance = refl;
        in_limit = omega (arith, sound.money);
      }

pub stake-kept : (t : Table) (j p n : ℕ) → Shaped t → Sound t → first (stake_conditions t j p n) ≡ 0 → Shaped (stake_effect t j p n) × Sound (stake_effect t j p n)
unfolding stake_effect
stake-kept t j p n shaped sound e = purse-kept (stake-moves t j p n e sound) shaped sound

pub stake_good : (opening : List ℕ) (es : List Entry) (t : Table) (at : At) (n : ℕ) (order : List ℕ) → Good opening es t → first (stake_conditions t at.seat at.position n) ≡ 0
    → Good opening (entry (Stake at n) order ∷ es) (stake_effect t at.seat at.position n)
unfolding stake_effect lays
stake_good opening es t at n order g e =
    let j = at.seat in
    let p = at.position in
    let seat-itself = eq-eqb j j refl in
    let itself = eq-eqb p p refl in
    purse_good (entry (Stake at n) order) (stake-moves t j p n e g.sound) g
    (record {
      among = refl;
      seat_is = refl;
      position_is = refl;
      stakes = simp (seat-itself, itself);
      sides_are = λ k h. ((g.agrees.seats j).guests p).sides_are k h ∙ sym (sides_stay es j p (entry (Stake at n) order) refl refl k h);
      lays_more = simp (seat-itself, itself) (omega (arith, (stake-accepted t j p n e).unstaked));
      buys = refl;
      cashes = refl;
    })
