-- Behind the conditions in turn a hand of the seat waits; with what the call asks behind them, that is all that its rule asks of the hand. A number of
-- one of these parts says that the part fails, and the rule with it.
use mathlib.Core.Path.{◌≡◌, refl, sym, ◌∙◌, ap}
use mathlib.Core.Bool.{Bool, true, false, not, ◌||◌, and-false, true≢false}
use mathlib.Core.List.{List, [], ◌∷◌, ◌++◌, append-nil}
use Prim.Native.Nat.{ℕ, ◌≤◌, ◌<◌}
use native.Mathlib.Omega.{arith}
use lib.Dec.{leb, eqb}
use lib.ListN.{length}
use borrow.Author.Tests.{ltb-true, lt-ltb, leb-true, leb-false, eqb-true, not-false}
use Rattle.lists.specs.Tests.{any_of, all_of}
use Rattle.lists.proofs.Tests.{first_inside, first_passes, any_not_at}
use Rattle.cards.specs.Card.{is_ace}
use Rattle.cards.specs.Hand.{cards_of}
use Rattle.cards.specs.Pair.{is_pair}
use Rattle.rules.specs.SeatHand.{played_of}
use Rattle.rules.specs.Waits.{waits}
use Rattle.rules.specs.Turn.{seat_waits}
use Rattle.rules.specs.Permits.{permits_stand, permits_split}
use Rattle.rules.specs.Leaving.{permits_surrender}
use Rattle.rules.proofs.seat_hand.Places.{many_hands, hand_at}
use Rattle.call.specs.Refusal.{Condition, first}
use Rattle.call.proofs.Refusals.{first_holds, first_past, none_hold}
use Rattle.table.specs.declared.Table.{Table}
use Rattle.table.specs.Seat.{missing_place, hands, decider}
use Rattle.table.specs.Table.{seat_at, no_such_seat, up}
use Rattle.table.specs.Broken.{broken}
use Rattle.table.specs.Shape.{Shaped}
use Rattle.table.proofs.Facts.{unbroken}
use Rattle.table.proofs.SeatHands.{how_many}
use Rattle.answer.specs.Conditions.{in_round, seat_conditions, guest_conditions, no_position, no_stake, not_deciding}
use Rattle.table.specs.Progress.{any_drew}
use Rattle.decisions_spec.specs.Place.{place_of}
use Rattle.decisions_spec.specs.Turn.{turn_conditions, waiting_place_of, waiting_hand_of, may_take}
use Rattle.decisions_spec.specs.Stand.{stand_conditions}
use Rattle.decisions_spec.specs.Split.{split_conditions}
use Rattle.decisions_spec.specs.Surrender.{surrender_conditions}
use Rattle.decisions_spec.specs.Permitted.{Permitted}
use Rattle.decisions_spec.proofs.Acting.{Acting, acting, staked_seat}
use Rattle.decisions_spec.proofs.Turn.{TurnAccepted, turn-accepted}
use Rattle.decisions_spec.proofs.Surrender.{surrender-accepted, not_split}

module _ (t : Table) (shaped : Shaped t) (j p : ℕ) where
  -- the first waiting hand of a seat that has one lies inside its hands, and waits
  inside : seat_waits t.options (up t) (hands (seat_at t j)) ≡ true → waiting_place_of t j < length (hands (seat_at t j))
  inside some = ltb-true _ _ (first_inside (waits t.options (up t) (length (hands (seat_at t j)))) (hands (seat_at t j)) ∙ some)

  hand-waits : j < 9 → seat_waits t.options (up t) (hands (seat_at t j)) ≡ true → may_take waits t j ≡ true
  hand-waits nine some =
      let s = seat_at t j in
      let within = inside some in
      let here : waiting_place_of t j < s.hands.many = omega (arith, many_hands s.hands (shaped.seats j nine).four_places) in
      ap (waits t.options (up t) (length (hands s))) (sym (hand_at s.hands (waiting_place_of t j) missing_place here))
      ∙ first_passes (waits t.options (up t) (length (hands s))) (hands s) (played_of missing_place) within

  turn-hand : TurnAccepted t j → may_take waits t j ≡ true
  turn-hand a = hand-waits a.acting.nine a.waits

  stand-permitted : first (stand_conditions t j p) ≡ 0 → may_take permits_stand t j ≡ true
  unfolding permits_stand all_of
  stand-permitted e = turn-hand (turn-accepted t j p [] refl (rw append-nil e)).0

  split-permitted : first (split_conditions t j p) ≡ 0 → may_take permits_split t j ≡ true
  unfolding split_conditions permits_split all_of
  split-permitted e =
      let (turn, (pair, (room, _))) = turn-accepted t j p _ refl e in
      let fewer = lt-ltb _ _ (leb-false t.options.hands (length (hands (seat_at t j))) room) in
      simp (turn-hand turn, not-false (is_pair (cards_of (waiting_hand_of t j).hand)) pair, fewer)

  surrender-permitted : first (surrender_conditions t j p) ≡ 0 → permits_surrender t.options (up t) (any_drew t) (length (hands (seat_at t j))) (played_of (place_of (seat_at t j) 0)) ≡ true
  unfolding surrender_conditions guest_conditions seat_conditions permits_surrender all_of
  surrender-permitted e =
      let a = surrender-accepted t j p e in
      let (_, (_, (_, (_, (_, (_, (_, (_, (no_ace, _))))))))) = none_hold (surrender_conditions t j p) refl e in
      let only : waiting_place_of t j ≡ 0 = omega (arith, not_split t j shaped a.acting.nine a.early, inside a.waits) in
      let waiting = rw only at (hand-waits a.acting.nine a.waits) in
      simp (waiting, a.early, no_ace)

  -- a refused one: the number is that of a part that fails, and none before it does
  split_no_pair : first (split_conditions t j p) ≡ 19 → is_pair (cards_of (waiting_hand_of t j).hand) ≡ false
  unfolding split_conditions turn_conditions guest_conditions seat_conditions any_of
  split_no_pair e = go (is_pair (cards_of (waiting_hand_of t j).hand)) (first_holds (split_conditions t j p) 19 (λ z. omega arith) e)
    where
      go : (pair : Bool) → not pair || false ≡ true → pair ≡ false
      go true some = absurd (true≢false (sym some))
      go false some = refl

  split_full : first (split_conditions t j p) ≡ 20 → (is_pair (cards_of (waiting_hand_of t j).hand) ≡ true) × (t.options.hands ≤ length (hands (seat_at t j)))
  unfolding split_conditions turn_conditions guest_conditions seat_conditions any_of all_of
  split_full e =
      let asked-first : List Condition = turn_conditions t j p ++ (19, not (is_pair (cards_of (waiting_hand_of t j).hand))) ∷ [] in
      let (_, (_, (_, (_, (_, (_, (_, (pair, _)))))))) = none_hold asked-first refl (first_past asked-first _ 20 refl e) in
      (not-false (is_pair (cards_of (waiting_hand_of t j).hand)) pair, go (leb t.options.hands (length (hands (seat_at t j)))) refl (first_holds (split_conditions t j p) 20 (λ z. omega arith) e))
    where
      go : (full : Bool) → leb t.options.hands (length (hands (seat_at t j))) ≡ full → full || false ≡ true → t.options.hands ≤ length (hands (seat_at t j))
      go true f some = leb-true t.options.hands (length (hands (seat_at t j))) f
      go false f some = absurd (true≢false (sym some))

  split_not_13 : first (split_conditions t j p) ≡ 13 → ⊥
  unfolding split_conditions turn_conditions guest_conditions seat_conditions any_of
  split_not_13 e = true≢false (sym (first_holds (split_conditions t j p) 13 (λ z. omega arith) e))

  -- a staked seat none of whose hands waits has a hand in place 0, which does not wait
  idle : Acting t j → seat_waits t.options (up t) (hands (seat_at t j)) ≡ false → waits t.options (up t) (length (hands (seat_at t j))) (played_of (place_of (seat_at t j) 0)) ≡ false
  idle act none =
      let s = seat_at t j in
      let seat = staked_seat t shaped (unbroken t act.unbroken) j act in
      let inside : 0 < length (hands s) = omega (arith, how_many s 0 seat.shaped seat.few seat.some, seat.some) in
      ap (waits t.options (up t) (length (hands s))) (sym (hand_at s.hands 0 missing_place seat.some))
      ∙ any_not_at (waits t.options (up t) (length (hands s))) (hands s) 0 (played_of missing_place) inside none

  abbrev may_leave : Bool
  may_leave = permits_surrender t.options (up t) (any_drew t) (length (hands (seat_at t j))) (played_of (place_of (seat_at t j) 0))

  surrender_late : first (surrender_conditions t j p) ≡ 12 → may_leave ≡ false
  unfolding surrender_conditions guest_conditions seat_conditions permits_surrender any_of all_of
  surrender_late e = go (any_drew t) (seat_waits t.options (up t) (hands (seat_at t j))) refl refl (first_holds (surrender_conditions t j p) 12 (λ z. omega arith) e)
    where
      act : Acting t j
      act =
          let asked-first : List Condition = (1, broken t) ∷ in_round t ∷ (8, no_such_seat t j) ∷ no_position p ∷ no_stake t j p ∷ not_deciding t j p ∷ [] in
          let (whole, (in_round_lem, (such-seat, (such-position, (staked, _))))) = none_hold asked-first refl (first_past asked-first _ 12 refl e) in
          acting t j p whole in_round_lem such-seat such-position staked

      go : (late some_waits_lem : Bool) → any_drew t ≡ late → seat_waits t.options (up t) (hands (seat_at t j)) ≡ some_waits_lem → late || (not some_waits_lem || false) ≡ true → may_leave ≡ false
      go true some_waits_lem l s some = simp (l, and-false)
      go false true l s some = absurd (true≢false (sym some))
      go false false l s some = simp (idle act s)

  surrender_barred : first (surrender_conditions t j p) ≡ 13 → may_leave ≡ false
  unfolding surrender_conditions guest_conditions seat_conditions permits_surrender any_of
  surrender_barred e = go (is_ace (up t)) refl (first_holds (surrender_conditions t j p) 13 (λ z. omega arith) e)
    where
      go : (ace : Bool) → is_ace (up t) ≡ ace → ace || false ≡ true → may_leave ≡ false
      go true a some = simp (a, and-false)
      go false a some = absurd (true≢false (sym some))

  -- 23 does not hold
  deciding : not (eqb (decider t.options (seat_at t j)) p) ≡ false → decider t.options (seat_at t j) ≡ p
  deciding holds = eqb-true (decider t.options (seat_at t j)) p (not-false (eqb (decider t.options (seat_at t j)) p) holds)

  stand_decides : first (stand_conditions t j p) ≡ 0 → decider t.options (seat_at t j) ≡ p
  unfolding turn_conditions guest_conditions seat_conditions all_of
  stand_decides e =
      let (_, (_, (_, (_, (_, (_, (decides, _))))))) = none_hold (turn_conditions t j p) refl e in
      deciding decides

  surrender_decides : first (surrender_conditions t j p) ≡ 0 → decider t.options (seat_at t j) ≡ p
  unfolding surrender_conditions guest_conditions seat_conditions all_of
  surrender_decides e =
      let (_, (_, (_, (_, (_, (decides, _)))))) = none_hold (surrender_conditions t j p) refl e in
      deciding decides

  pub permitted : Permitted t j p
  permitted =
      record {
        stand = stand-permitted;
        split = split-permitted;
        surrender = surrender-permitted;
        split_no_pair = split_no_pair;
        split_full = split_full;
        split_not_13 = split_not_13;
        surrender_late = surrender_late;
        surrender_barred = surrender_barred;
        stand_decides = stand_decides;
        surrender_decides = surrender_decides;
      }
