-- An accepted surrender ends the seat's only hand, out of turn, and moves no money and no card.
use mathlib.Core.Path.{◌≡◌, refl, sym, ◌∙◌, ap, subst}
use mathlib.Core.Bool.{true, false, not, true≢false}
use mathlib.Core.List.{List}
use Prim.Native.Nat.{ℕ, ◌≤◌, ◌<◌}
use native.Mathlib.Omega.{arith}
use lib.Dec.{ltb}
use lib.ListN.{length, length-map, get_or-map}
use borrow.Author.Tests.{ltb-false, eq-eqb, not-false}
use Rattle.lists.specs.Tests.{any_of, all_of}
use Rattle.lists.proofs.Tests.{any_not_at, or_eq_false}
use Rattle.cards.specs.Card.{is_ace}
use Rattle.rules.specs.SeatHand.{played_of, by_surrender, has_two_cards}
use Rattle.rules.specs.Turn.{seat_waits}
use Rattle.rules.specs.Drew.{seat_drew}
use Rattle.rules.proofs.seat_hand.Places.{many_hands}
use Rattle.call.specs.declared.At.{At}
use Rattle.call.specs.declared.Call.TheVariants.{Surrender}
use Rattle.call.specs.Refusal.{first}
use Rattle.call.proofs.Refusals.{none_hold}
use Rattle.history.specs.Aids.MakeEntry.{entry}
use Rattle.history.specs.Hands.{surrenders}
use Rattle.table.specs.declared.Table.{Table}
use Rattle.table.specs.Seat.{missing_place, missing_seat, hands}
use Rattle.table.specs.Table.{seat_at, seats_hands, up}
use Rattle.table.specs.Broken.{sound_surrender, sound_ending}
use Rattle.table.specs.Shape.{Shaped}
use Rattle.table.specs.Aids.Sound.{Sound}
use Rattle.table.proofs.SeatHands.{how_many, hand_is}
use Rattle.answer.specs.Conditions.{seat_conditions, guest_conditions}
use Rattle.table.specs.Progress.{any_drew}
use Rattle.decisions_spec.specs.Place.{place_of, ended_by}
use Rattle.decisions_spec.specs.Turn.{waiting_place_of}
use Rattle.decisions_spec.specs.Surrender.{surrender_conditions, surrender_effect}
use Rattle.decisions_spec.proofs.Acting.{Acting, acting, Waiting, seat-waiting}
use Rattle.decisions_spec.proofs.Decision.{Decision}
use Rattle.decisions_spec.proofs.End.{Ends, end_decides}

-- what its conditions give
pub record SurrenderAccepted (t : Table) (j : ℕ) : Type 0 where
  pub acting : Acting t j
  pub early : any_drew t ≡ false
  pub waits : seat_waits t.options (up t) (hands (seat_at t j)) ≡ true
  pub no_ace : is_ace (up t) ≡ false

pub surrender-accepted : (t : Table) (j p : ℕ) → first (surrender_conditions t j p) ≡ 0 → SurrenderAccepted t j
unfolding surrender_conditions guest_conditions seat_conditions all_of
surrender-accepted t j p e =
    let (unbroken, (in_round_lem, (such-seat, (such-position, (staked, (_, (early, (waits, (no_ace, _))))))))) = none_hold (surrender_conditions t j p) refl e in
    record { acting = acting t j p unbroken in_round_lem such-seat such-position staked; early = early; waits = not-false (seat_waits t.options (up t) (hands (seat_at t j))) waits; no_ace = no_ace }

-- the seat has not split, drawn or doubled
module _ (t : Table) (j : ℕ) (shaped : Shaped t) (nine : j < 9) (none : any_drew t ≡ false) where
  not-drew : (ltb 1 (length (hands (seat_at t j))) ≡ false) × (any_of (λ h. not (has_two_cards h)) (hands (seat_at t j)) ≡ false)
  unfolding any_drew seat_drew
  not-drew =
      or_eq_false (ltb 1 (length (hands (seat_at t j)))) (any_of (λ h. not (has_two_cards h)) (hands (seat_at t j)))
      (ap seat_drew (sym (get_or-map hands t.seats j missing_seat)) ∙ any_not_at seat_drew (seats_hands t) j (hands missing_seat) (omega (arith, length-map t.seats hands, shaped.nine_seats_lem)) none)

  pub not_split : length (hands (seat_at t j)) ≤ 1
  not_split = ltb-false 1 (length (hands (seat_at t j))) not-drew.0

  two_cards_lem : (p : ℕ) → Waiting t j p → has_two_cards (played_of (place_of (seat_at t j) p)) ≡ true
  two_cards_lem p w =
      let s = seat_at t j in
      ap has_two_cards (sym (hand_is s p w.seat.shaped w.seat.few w.here))
      ∙ not-false _ (any_not_at (λ h. not (has_two_cards h)) (hands s) p (played_of missing_place) (omega (arith, how_many s p w.seat.shaped w.seat.few w.here, w.here)) not-drew.1)

-- before anyone has drawn, doubled or split the seat has one hand, so the one that waits is at 0
first-waiting : (t : Table) (j : ℕ) → Shaped t → Sound t → SurrenderAccepted t j → Waiting t j 0
first-waiting t j shaped sound a =
    let w = seat-waiting t shaped sound j a.acting a.waits in
    let first-place : waiting_place_of t j ≡ 0 = omega (arith, not_split t j shaped a.acting.nine a.early, many_hands (seat_at t j).hands w.seat.shaped.four_places, w.here) in
    subst (Waiting t j) first-place w

-- so the hand is the seat's only one, of two cards, against no ace
surrendered : (t : Table) (j : ℕ) → Shaped t → SurrenderAccepted t j → Waiting t j 0
    → sound_ending t.options (up t) (seat_at t j).hands.many (played_of (ended_by (place_of (seat_at t j) 0) by_surrender)) ≡ true
unfolding sound_ending sound_surrender has_two_cards
surrendered t j shaped a w =
    let s = seat_at t j in
    let one : s.hands.many ≡ 1 = omega (arith, not_split t j shaped a.acting.nine a.early, how_many s 0 w.seat.shaped w.seat.few w.here, w.seat.some) in
    simp (eq-eqb s.hands.many 1 one, two_cards_lem t j shaped a.acting.nine a.early 0 w, a.no_ace)

pub surrender_decides : (t : Table) (at : At) (order : List ℕ) → Shaped t → Sound t → first (surrender_conditions t at.seat at.position) ≡ 0
    → Decision t (entry (Surrender at) order) (surrender_effect t at.seat)
unfolding surrender_effect surrenders
surrender_decides t at order shaped sound e =
    let a = surrender-accepted t at.seat at.position e in
    let w = first-waiting t at.seat shaped sound a in
    let ends : Ends t (entry (Surrender at) order) at.seat 0 by_surrender =
    record { deciding = record { among = refl; no_insure = refl; seat_is = refl }; plain = refl; ends_one = refl; decides = λ c. refl; some_code = omega arith; fits = surrendered t at.seat shaped a w; single = λ h. omega arith } in
    end_decides t (entry (Surrender at) order) at.seat 0 by_surrender ends sound (λ in_turn_lem. absurd (true≢false in_turn_lem)) w
