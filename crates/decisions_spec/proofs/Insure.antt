-- An accepted insurance: the amount goes from the guest's purse to the layout, and nothing else changes.
use mathlib.Core.Path.{◌≡◌, refl, sym, ◌∙◌}
use mathlib.Core.Bool.{true}
use mathlib.Core.List.{List, ◌∷◌}
use Prim.Native.Nat.{ℕ, ◌+◌, ◌≤◌, ◌<◌}
use native.Mathlib.Omega.{arith}
use borrow.Author.Tests.{ltb-true, ltb-false, leb-false, eq-eqb, not-false}
use Rattle.lists.specs.Tests.{all_of}
use Rattle.cards.specs.Card.{is_ace}
use Rattle.options.specs.Permitted.{insurance_permitted}
use Rattle.call.specs.declared.At.{At}
use Rattle.call.specs.declared.Call.TheVariants.{Insure}
use Rattle.call.specs.Refusal.{first}
use Rattle.call.proofs.Refusals.{none_hold}
use Rattle.history.specs.Entry.{Entry}
use Rattle.history.specs.Aids.MakeEntry.{entry}
use Rattle.history.specs.Money.{lays}
use Rattle.table.specs.declared.Money.{Money}
use Rattle.table.specs.declared.Seat.{Seat}
use Rattle.table.specs.declared.Table.{Table}
use Rattle.table.specs.Guest.{insuring}
use Rattle.table.specs.Seat.{with_money, with_guest, purse, stake, insurance, is_staked, laid, prizes}
use Rattle.table.specs.Table.{seat_at, guest_of, is_dealt, up}
use Rattle.table.specs.Shape.{Shaped}
use Rattle.table.specs.Aids.Sound.{Sound, SoundGuest}
use Rattle.table.proofs.SeatHands.{laid_playing, guest-laid, guest-prizes}
use Rattle.table.proofs.SeatChange.{change_shaped, change_sound}
use Rattle.table.proofs.GuestChange.{GuestChange, guest_change}
use Rattle.agreement.specs.Aids.Agrees.{Good}
use Rattle.agreement.proofs.Quiet.{sides_stay}
use Rattle.agreement.proofs.OneGuest.{one-guest}
use Rattle.answer.specs.Conditions.{seat_conditions, guest_conditions}
use Rattle.decisions_spec.specs.Insure.{insure_conditions, insure_effect}
use Rattle.decisions_spec.proofs.Acting.{Acting, acting, Staked, staked_seat}

-- what its conditions give
pub record InsureAccepted (t : Table) (j p n : ℕ) : Type 0 where
  pub acting : Acting t j
  pub position : p < 3
  pub staked : 0 < stake (guest_of t j p)
  pub none_yet : insurance (guest_of t j p) ≡ 0
  pub ace : is_ace (up t) ≡ true
  pub permitted : insurance_permitted t.options (stake (guest_of t j p)) n ≡ true
  pub enough : n ≤ purse (guest_of t j p)

pub insure-accepted : (t : Table) (j p n : ℕ) → first (insure_conditions t j p n) ≡ 0 → InsureAccepted t j p n
unfolding insure_conditions guest_conditions seat_conditions all_of
insure-accepted t j p n e =
    let g = guest_of t j p in
    let (unbroken, (in_round_lem, (such-seat, (such-position, (insured, (staked, (decided, (ace, (none, (permitted, (enough, _))))))))))) = none_hold (insure_conditions t j p n) refl e in
    record {
      acting = acting t j p unbroken in_round_lem such-seat such-position staked;
      position = leb-false 3 p such-position;
      staked = ltb-true 0 (stake g) (not-false (is_staked g) staked);
      none_yet = omega (arith, ltb-false 0 (insurance g) insured);
      ace = not-false (is_ace (up t)) ace;
      permitted = not-false (insurance_permitted t.options (stake g) n) permitted;
      enough = ltb-false (purse g) n enough;
    }

module _ (t : Table) (j p n : ℕ) (shaped : Shaped t) (sound : Sound t) (a : InsureAccepted t j p n) where
  abbrev g : Seat
  g = guest_of t j p

  -- the guest's money after it, and the guest as if alone at the seat
  abbrev m : Money
  m = insuring g.money n

  abbrev alone : Seat
  alone = with_money (seat_at t j) m

  seat : Staked t j
  seat = staked_seat t shaped sound j a.acting

  was : SoundGuest t.options (is_dealt t) (up t) j g
  was = (sound.seats j a.acting.nine).guests p a.position

  laid_more : laid alone ≡ laid g + n
  laid_more =
      omega (
        arith,
        laid_playing alone seat.shaped.four_places seat.some,
        guest-laid (seat_at t j) p seat.shaped.four_places seat.some,
        a.none_yet,
      )

  same_prizes : prizes t.options alone ≡ prizes t.options g
  unfolding prizes
  same_prizes = sym (guest-prizes t.options (seat_at t j) p)

  insure-change : GuestChange t j p m 0 0
  insure-change =
      record {
        within = a.acting.within;
        position = a.position;
        as_many = seat.shaped.four_sides p a.position;
        sound_guest_lem =
            record {
              beyond = λ h. absurd (omega (arith, a.acting.within));
              stake_fits = was.stake_fits;
              insured = λ some. record { in_round_lem = a.acting.dealt; ace_up = a.ace; staked = a.staked; permitted = a.permitted };
              sides_fit = was.sides_fit;
              prizes_back = omega (arith, same_prizes, laid_more, a.enough, was.prizes_back);
            };
        grows = omega arith;
        same_stake = λ dealt. refl;
        seated_stakes = λ beside. (sound.seats j a.acting.nine).seated_first_lem p a.position;
        same_cover = λ dealt. refl;
        same_prizes = λ dealt. same_prizes;
        paid = omega (arith, laid_more, a.enough);
        in_limit = omega (arith, sound.money);
      }

pub insure-kept : (t : Table) (j p n : ℕ) → Shaped t → Sound t → first (insure_conditions t j p n) ≡ 0 → Shaped (insure_effect t j p n) × Sound (insure_effect t j p n)
unfolding insure_effect
insure-kept t j p n shaped sound e =
    let s = with_guest (seat_at t j) p (insuring (guest_of t j p).money n) in
    let moves = guest_change t j p (insuring (guest_of t j p).money n) 0 0 shaped sound (insure-change t j p n shaped sound (insure-accepted t j p n e)) in
    (change_shaped t j t.tray s t.shoe 0 0 0 shaped sound moves, change_sound t j t.tray s t.shoe 0 0 0 shaped sound moves)

pub insure_good : (opening : List ℕ) (es : List Entry) (t : Table) (at : At) (n : ℕ) (order : List ℕ) → Good opening es t → first (insure_conditions t at.seat at.position n) ≡ 0
    → Good opening (entry (Insure at n) order ∷ es) (insure_effect t at.seat at.position n)
unfolding insure_effect lays
insure_good opening es t at n order good e =
    let j = at.seat in
    let p = at.position in
    let a = insure-accepted t j p n e in
    let agrees = (good.agrees.seats j).guests p in
    let seat-itself = eq-eqb j j refl in
    let itself = eq-eqb p p refl in
    one-guest opening es t (entry (Insure at n) order) j p (insuring (guest_of t j p).money n) 0 0 good (insure-change t j p n good.shaped good.sound a)
    (record {
      of_money =
          record { seat_is = refl; position_is = refl; not_fill = refl; not_credit = refl; not_load = refl; not_deal = refl; not_decision = refl; not_end = refl };
      stake_is = agrees.stake_is;
      insurance_is = simp (seat-itself, itself);
      sides_are = λ k h. agrees.sides_are k h ∙ sym (sides_stay es j p (entry (Insure at n) order) refl refl k h);
      lays_more = simp (seat-itself, itself) (laid_more t j p n good.shaped good.sound a);
      same_prizes = same_prizes t j p n good.shaped good.sound a;
      buys = refl;
      cashes = refl;
    })
