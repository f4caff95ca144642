-- An accepted side stake keeps the table good: the seat has a stake and none of that kind, and its purse holds it, so the amount goes from purse to layout.
use mathlib.Core.Path.{◌≡◌, refl, sym, ◌∙◌, ap}
use mathlib.Core.Bool.{true, or-true, and-eq-true_iff}
use mathlib.Core.List.{List, ◌∷◌}
use Prim.Native.Nat.{ℕ, ◌+◌, ◌-◌, ◌≤◌, ◌<◌}
use native.Mathlib.Decide.{ℕ_discrete}
use native.Mathlib.Omega.{arith}
use lib.Dec.{leb}
use lib.ListN.{length, get_or, set, length-set}
use lib.Seq.{get_or-set_same, get_or-set_other, take_all}
use borrow.Author.Tests.{ltb-true, ltb-false, leb-true, le-leb, eq-eqb, ne_eqb, not-false}
use Rattle.lists.specs.Sum.{sum_of}
use Rattle.lists.specs.Tests.{all_of}
use Rattle.lists.specs.Below.{sum_below}
use Rattle.lists.proofs.Sums.{sum-set}
use Rattle.lists.proofs.Parts.{sum_first}
use Rattle.options.specs.Permitted.{most_side, side_permitted}
use Rattle.payment.specs.Bets.{side, all_sides}
use Rattle.call.specs.declared.At.{At}
use Rattle.call.specs.declared.Call.TheVariants.{Side}
use Rattle.call.specs.Refusal.{first}
use Rattle.call.proofs.Refusals.{none_hold}
use Rattle.table.specs.declared.Table.{Table}
use Rattle.table.specs.Guest.{siding}
use Rattle.table.specs.Seat.{purse, stake, sides, is_staked}
use Rattle.table.specs.Table.{guest_of}
use Rattle.table.specs.Shape.{Shaped}
use Rattle.table.specs.Aids.Sound.{Sound}
use Rattle.history.specs.Entry.{Entry, is_side}
use Rattle.history.specs.Rounds.{side_in}
use Rattle.history.specs.Aids.MakeEntry.{entry}
use Rattle.history.specs.Money.{lays}
use Rattle.agreement.specs.Aids.Agrees.{Good}
use Rattle.agreement.proofs.Groups.{InGroup, of_purse, not_double, not_split, not_end}
use Rattle.answer.specs.Conditions.{seat_conditions}
use Rattle.cashier_spec.specs.Side.{is_side_kind, side_conditions, side_effect}
use Rattle.cashier_spec.proofs.Purse.{GuestBetween, guest_between, PurseMoves, purse-kept, purse_good}

-- what an accepted side stake says
pub record SideAccepted (t : Table) (j p k n : ℕ) : Type 0 where
  pub guest : GuestBetween t j p
  pub least : 1 ≤ k
  pub most : k ≤ 4
  pub unlaid : side (sides (guest_of t j p)) k ≡ 0
  pub staked : 0 < stake (guest_of t j p)
  pub some : 1 ≤ n
  pub permitted : n ≤ most_side
  pub enough : n ≤ purse (guest_of t j p)

-- the four side stakes are the sum of the list, so another one changes their sum by itself
sides-sum : (xs : List ℕ) → length xs ≡ 4 → all_sides xs ≡ sum_of (λ x. x) xs
unfolding sum_below
sides-sum xs four = omega (arith, sum_first (λ x. x) xs 4 0 (omega arith), ap (sum_of (λ x. x)) (take_all 4 xs (omega arith)))

sides-set : (xs : List ℕ) (i n : ℕ) → length xs ≡ 4 → i < 4 → all_sides (set xs i n) + get_or xs i 0 ≡ all_sides xs + n
sides-set xs i n four h =
    omega (arith, sides-sum xs four, sides-sum (set xs i n) (length-set xs i n ∙ four), sum-set (λ x. x) xs i n 0 (omega arith))

module _ (t : Table) (j p k n : ℕ) (e : first (side_conditions t j p k n) ≡ 0) where
  pub side-accepted : SideAccepted t j p k n
  unfolding side_conditions seat_conditions all_of is_side_kind side_permitted
  side-accepted =
      let s = guest_of t j p in
      let (unbroken, (between, (such-seat, (kind, (such-position, (unlaid, (staked, (permitted, (enough, _))))))))) = none_hold (side_conditions t j p k n) refl e in
      let (least, most) = (and-eq-true_iff (leb 1 k) (leb k 4)).0 (not-false (is_side_kind k) kind) in
      let (some, small) = (and-eq-true_iff (leb 1 n) (leb n most_side)).0 (not-false (side_permitted n) permitted) in
      record {
        guest = guest_between t j p unbroken between such-seat such-position;
        least = leb-true 1 k least;
        most = leb-true k 4 most;
        unlaid = omega (arith, ltb-false 0 (side (sides s) k) unlaid);
        staked = ltb-true 0 (stake s) (not-false (is_staked s) staked);
        some = leb-true 1 n some;
        permitted = leb-true n most_side small;
        enough = ltb-false (purse s) n enough;
      }

  -- the side stakes with the new one
  module _ (shaped : Shaped t) where
    four : length (sides (guest_of t j p)) ≡ 4
    four = (shaped.seats j side-accepted.guest.nine).four_sides p side-accepted.guest.position

    more : all_sides (set (sides (guest_of t j p)) (k - 1) n) ≡ all_sides (sides (guest_of t j p)) + n
    more = omega (arith, sides-set (sides (guest_of t j p)) (k - 1) n four (omega (arith, side-accepted.most)), side-accepted.unlaid)

    -- at its own place it is the amount, at any other it is what it was
    at_place : (P : ℕ → ℕ → Type 0) → P (k - 1) n → ((i : ℕ) → (i ≡ k - 1 → ⊥) → P i (get_or (sides (guest_of t j p)) i 0)) → (i : ℕ) → P i (get_or (set (sides (guest_of t j p)) (k - 1) n) i 0)
    at_place P here other i = go (ℕ_discrete i (k - 1))
      where
        go : Dec (i ≡ k - 1) → P i (get_or (set (sides (guest_of t j p)) (k - 1) n) i 0)
        go (yes same) = rw (same, get_or-set_same (sides (guest_of t j p)) (k - 1) n 0 (omega (arith, four, side-accepted.most))) here
        go (no away) = rw (get_or-set_other (sides (guest_of t j p)) (k - 1) i n 0 away) (other i away)

    side-moves : Sound t → PurseMoves t j p (siding (guest_of t j p).money k n) 0 0
    side-moves sound =
        let a = side-accepted in
        let was = (sound.seats j a.guest.nine).guests p a.guest.position in
        record {
          guest = a.guest;
          fits = was.stake_fits;
          grows = omega arith;
          seated_stakes = λ beside. (sound.seats j a.guest.nine).seated_first_lem p a.guest.position;
          sides_fit = at_place (λ i x. i < 4 → 0 < x → (0 < stake (guest_of t j p)) × (x ≤ most_side)) (λ h some. (a.staked, a.permitted)) (λ i away. was.sides_fit i);
          as_many = length-set (sides (guest_of t j p)) (k - 1) n;
          pays = omega (arith, more, a.enough);
          same_insurance = refl;
          in_limit = omega (arith, sound.money);
        }

pub side-kept : (t : Table) (j p k n : ℕ) → Shaped t → Sound t → first (side_conditions t j p k n) ≡ 0 → Shaped (side_effect t j p k n) × Sound (side_effect t j p k n)
unfolding side_effect
side-kept t j p k n shaped sound e = purse-kept (side-moves t j p k n e shaped sound) shaped sound

-- how the history sees a side stake of kind 1 to 4
module _ (at : At) (k n : ℕ) (order : List ℕ) (least : 1 ≤ k) (most : k ≤ 4) where
  abbrev call : Entry
  call = entry (Side at k n) order

  is-side : is_side call ≡ true
  is-side = simp (le-leb 18 (17 + k) (omega arith), le-leb (17 + k) 21 (omega arith))

  among : InGroup call of_purse
  among = simp (ne_eqb (17 + k) 1 (omega arith), ne_eqb (17 + k) 2 (omega arith), ne_eqb (17 + k) 17 (omega arith), is-side, or-true)

pub side_good : (opening : List ℕ) (es : List Entry) (t : Table) (at : At) (k n : ℕ) (order : List ℕ) → Good opening es t → first (side_conditions t at.seat at.position k n) ≡ 0
    → Good opening (entry (Side at k n) order ∷ es) (side_effect t at.seat at.position k n)
unfolding side_effect lays
side_good opening es t at k n order g e =
    let j = at.seat in
    let p = at.position in
    let a = side-accepted t j p k n e in
    let seat-itself = eq-eqb j j refl in
    let itself = eq-eqb p p refl in
    let purse-call = among at k n order a.least a.most in
    let it = call at k n order a.least a.most in
    let no_end = not_end it purse-call refl in
    purse_good (entry (Side at k n) order) (side-moves t j p k n e g.shaped g.sound) g
    (record {
      among = purse-call;
      seat_is = refl;
      position_is = refl;
      stakes = ((g.agrees.seats j).guests p).stake_is ∙ sym (simp (no_end, ne_eqb (17 + k) 5 (omega arith)));
      sides_are = λ i h.
          at_place t j p k n e g.shaped (λ i x. i < 4 → x ≡ side_in (entry (Side at k n) order ∷ es) j p (i + 1))
          (λ l. sym (simp (no_end, seat-itself, itself, eq-eqb (17 + k) (17 + (k - 1 + 1)) (omega (arith, a.least)))))
          (λ i away l. ((g.agrees.seats j).guests p).sides_are i l ∙ sym (simp (no_end, ne_eqb (17 + k) (17 + (i + 1)) (λ same. away (omega arith)))))
          i h;
      lays_more = simp (seat-itself, itself, not_double it purse-call refl, not_split it purse-call refl, is-side at k n order a.least a.most, or-true) (omega (arith, more t j p k n e g.shaped));
      buys = simp (ne_eqb (17 + k) 3 (omega arith));
      cashes = simp (ne_eqb (17 + k) 4 (omega arith));
    })
