-- `surveyed` looks seat by seat: before each turn the first i are sound, their sums added up and their cards counted, and the first that is not sound decides.
use mathlib.Core.Path.{◌≡◌, refl, sym, ap, ◌∙◌}
use mathlib.Core.Bool.{Bool, true, false, true≢false}
use mathlib.Core.List.{List, map}
use Prim.Native.Nat.{ℕ, ◌+◌, ◌*◌, ◌≤◌, ◌<◌}
use native.Mathlib.Nat.{add-zero}
use native.Mathlib.Omega.{arith}
use lib.ListN.{length, take, get_or}
use lib.Seq.{take_all}
use Rattle.lists.specs.Sum.{sum_of}
use Rattle.lists.specs.Flat.{flat}
use Rattle.lists.specs.Below.{all_below}
use Rattle.lists.proofs.Below.{all_below_lem, below_passes}
use Rattle.options.specs.declared.Options.{Options}
use Rattle.rules.specs.declared.seat_hand.SeatHand.{SeatHand}
use Rattle.rules.specs.SeatHand.{played_of}
use Rattle.table.specs.declared.Seat.{Seat}
use Rattle.table.specs.declared.Table.{Table}
use Rattle.table.specs.Seat.{missing_seat, seat_cards}
use Rattle.table.specs.Table.{is_dealt, up}
use Rattle.table.specs.Broken.{sound_seat, seat_sound}
use Rattle.money.specs.Sums.{sums_over}
use Rattle.money.proofs.sums.Pass.{next-seat, no_guests_fit, three_more}
use Rattle.card_count.specs.Aids.Counters.{counted_all}
use Rattle.card_count.specs.Aids.Counted.{Counted}
use Rattle.card_count.proofs.out_cards.Counting.{counted_none, counted_next, counted_is, counted-at}
use Rattle.broken.proofs.seat.Guests.{passed, failed}
use Rattle.broken.proofs.surveyed.Goals.{Joined-s-ne0, then-s-ne0, else-s-ne0}
use Rattle.broken.proofs.surveyed.Goals as goal

-- the test of a seat, with what is worked out before the loop
abbrev passes : Options → Bool → ℕ → List Seat → ℕ → Bool
passes o dealt card seats i = sound_seat o dealt card i (get_or seats i missing_seat)

-- it is that of the definition
same : (t : Table) (card : ℕ) (dealt : Bool) → dealt ≡ is_dealt t → card ≡ up t → all_below (passes t.options dealt card t.seats) 9 ≡ all_below (seat_sound t) 9
same t card dealt d u = rw (d, u) refl

-- one seat that fails decides
fails : (test : ℕ → Bool) (i : ℕ) → i ≤ 8 → test i ≡ false → false ≡ all_below test 9
fails test i h failed = go (all_below test 9) refl
  where
    go : (b : Bool) → all_below test 9 ≡ b → false ≡ all_below test 9
    go true all = absurd (true≢false (sym (all_below_lem test 9 i all (omega arith)) ∙ failed))
    go false all = sym all

-- a seat without a hand has no card
no_hand : (of : List ℕ) (n : ℕ) (places : List SeatHand) → n ≡ 0 → Counted of of (flat (λ h. h.cards) (map played_of (take n places))) 0 80
unfolding counted_all flat
no_hand of n places none = rw none (record { counters = refl; number = refl; few = omega arith })

-- by either way the seat's cards are counted
counted : (c : Joined-s-ne0)
    → Counted c.args.of.now c.if-s-ne0.of (flat seat_cards (take (c.loop-i.i + 1) c.args.t.now.seats)) c.if-s-ne0.cards (80 * (c.loop-i.i + 1))
counted c =
    let t = c.args.t.now in
    let at = c.loop-i in
    let full : length t.seats ≡ 9 = c.seats_shape.ensures in
    let below : at.i < length t.seats = omega arith in
    let s = get_or t.seats at.i missing_seat in
    elim c.if-s-ne0.branch [
      | then-s-ne0 w ↦ counted-at w.of-is w.cards-is (counted_next seat_cards t.seats 80 at.i missing_seat below at.invariant.4 w.count_seat.ensures)
      | else-s-ne0 w ↦
          counted-at w.of-is (w.cards-is ∙ sym (add-zero at.cards))
          (counted_next seat_cards t.seats 80 at.i missing_seat below at.invariant.4 (no_hand at.of s.hands.many s.hands.places (omega (arith, w.if-s-ne0.false))))
    ]

pub loop-i-init : goal.loop-i-init
unfolding all_below sum_of
loop-i-init c =
    let none = c.no_sums-sums.ensures in
    (omega arith, refl, none, rw none no_guests_fit, counted_none seat_cards c.args.t.now.seats 80 _)

pub returns-in_err-surveyed : goal.returns-in_err-surveyed
returns-in_err-surveyed c =
    let t = c.args.t.now in
    let card = c.up in
    let dealt = c.is_dealt in
    rw c.from_residual.ensures (record {
      each =
          fails (passes t.options dealt.result card.result t.seats) c.loop-i.i (omega (arith, c.loop-i-test.true)) (failed _ _ _ _ c.surveyed.ensures c.in_err-surveyed.was)
          ∙ same t card.result dealt.result dealt.ensures card.ensures;
      sums = tt;
      counted = tt;
    })

pub loop-i-preserved : goal.loop-i-preserved
loop-i-preserved c =
    let t = c.args.t.now in
    let card = c.up in
    let dealt = c.is_dealt in
    let i = c.loop-i.i in
    let full : length t.seats ≡ 9 = c.seats_shape.ensures in
    let m = c.in_ok-surveyed.field-0 in
    let one = passed _ _ 3 _ m c.surveyed.ensures c.in_ok-surveyed.was in (
      omega arith,
      below_passes (passes t.options dealt.result card.result t.seats) i (sym one.sound) ∙ c.loop-i.invariant.1,
      c.plus-sums.ensures ∙ next-seat t.options t.seats i (omega arith) c.loop-i.sums m c.loop-i.invariant.2 one.sums,
      three_more i c.loop-i.sums m c.plus-sums.result c.loop-i.invariant.3 (rw one.sums one.fits) c.plus-sums.ensures,
      counted (goal.at.loop-i-preserved c).Joined-s-ne0,
    )

pub returns : goal.returns
returns c =
    let t = c.args.t.now in
    let card = c.up in
    let dealt = c.is_dealt in
    let full : length t.seats ≡ 9 = c.seats_shape.ensures in
    let nine : c.loop-i.i ≡ 9 = omega arith in
    let all = take_all c.loop-i.i t.seats (omega arith) in
    record {
      each = sym (rw nine at c.loop-i.invariant.1) ∙ same t card.result dealt.result dealt.ensures card.ensures;
      sums = c.loop-i.invariant.2 ∙ ap (sums_over t.options) all;
      counted = counted_is c.loop-i.invariant.4 (ap (flat seat_cards) all) (omega arith);
    }
