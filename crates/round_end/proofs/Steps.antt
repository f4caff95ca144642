-- One accepted call: between rounds nothing is counted, a deal begins with room for all that its hands and guests can still do, every call of a dealt round keeps the room, and a close finds it.
use mathlib.Core.Path.{◌≡◌, refl, sym, ◌∙◌, ap, ap₂, subst}
use mathlib.Core.Bool.{Bool, true, false, cond, ◌&&◌, and-false, true≢false}
use mathlib.Core.List.{List, [], ◌∷◌, append-nil}
use Prim.Native.Nat.{ℕ, ◌+◌, ◌*◌, ◌≤◌, ◌<◌}
use native.Mathlib.Decide.{ℕ_discrete}
use native.Mathlib.Omega.{arith}
use lib.Dec.{ltb, eqb}
use lib.ListN.{length, get_or, set}
use borrow.Author.Tests.{lt-ltb, le-leb, eq-eqb, ne_eqb, eqb-false, ltb-false}
use Rattle.lists.specs.Sum.{sum_of}
use Rattle.lists.specs.Tests.{all_of}
use Rattle.lists.proofs.Tests.{or_eq_false, cond_same}
use Rattle.lists.proofs.Below.{sum_below-same}
use Rattle.lists.proofs.Counts.{sum_below-each}
use Rattle.lists.proofs.Picks.{cond_most}
use Rattle.call.specs.declared.At.{At}
use Rattle.call.specs.declared.Call.{Call}
use Rattle.call.specs.declared.Call.TheVariants.{Deal, Insure, Stand, Draw, Double, Split, Surrender, Even, Five, Close, Void}
use Rattle.call.specs.Refusal.{first}
use Rattle.options.specs.declared.Options.{Options}
use Rattle.options.specs.Device.{is_box}
use Rattle.rules.specs.SeatHand.{Played, by_stand, by_double, by_surrender, by_even, by_five}
use Rattle.rules.specs.Turn.{seat_waits, waiting_place}
use Rattle.table.specs.declared.Table.{Table}
use Rattle.table.specs.Seat.{stake, hands}
use Rattle.table.proofs.Facts.{sound_options}
use Rattle.table.proofs.Guests.{guest-seated}
use Rattle.table.specs.Table.{seat_at, is_dealt}
use Rattle.history.specs.Entry.{Entry, is_deal, is_close, is_end}
use Rattle.history.specs.Rounds.{is_dealt_round, stake_in, insurance_in, staked_below}
use Rattle.history.specs.Cards.{Cards, call_takes, bank_taken, cards_of_history}
use Rattle.history.specs.Hands.{missing_hand, dealt_hand, grown, finished, split_one, split_hands, surrenders, decide, turn_in, hands_after, hands_in, next_card}
use Rattle.agreement.specs.Aids.Agrees.{Good}
use Rattle.deal_spec.specs.Deal.{deal_conditions}
use Rattle.deal_spec.proofs.DealAccepted.{DealAccepted, deal-accepted}
use Rattle.close_spec.specs.Close.{close_conditions}
use Rattle.close_spec.proofs.Close.{close-accepted}
use Rattle.decisions_spec.specs.Turn.{turn_conditions}
use Rattle.decisions_spec.specs.Even.{even_conditions}
use Rattle.decisions_spec.specs.Five.{five_conditions}
use Rattle.decisions_spec.specs.Draw.{draw_conditions}
use Rattle.decisions_spec.specs.Double.{double_conditions}
use Rattle.decisions_spec.specs.Split.{split_conditions}
use Rattle.decisions_spec.specs.Insure.{insure_conditions}
use Rattle.decisions_spec.specs.Surrender.{surrender_conditions}
use Rattle.decisions_spec.proofs.Insure.{InsureAccepted, insure-accepted}
use Rattle.decisions_spec.proofs.Surrender.{SurrenderAccepted, surrender-accepted, not_split}
use Rattle.answer.specs.Conditions.{seat_conditions, guest_conditions}
use Rattle.call.proofs.Refusals.{none_hold}
use Rattle.decisions_spec.proofs.Turn.{TurnAccepted, turn-accepted, history_turn}
use Rattle.host_spec.specs.declared.HostCall.TheVariants.{Play}
use Rattle.host_spec.specs.History.{HostEntry, plays_of, with_play}
use Rattle.host_spec.proofs.Steps.{entry_of}
use Rattle.round_end.specs.Rounds.{RoundCount, with_call, takes_after, open_after, open_by, open_round, closed_by, closed_rounds}
use Rattle.round_end.specs.Bound.{ends}
use Rattle.round_end.proofs.Potential.{open_hand, open_hands, uninsured, seat_uninsured, hands_open, guests_open, potential, slack, below_change, below_most, place_inside, place_open, change_one, change_two}

-- what is carried from call to call
pub record Bounded (o : Options) (opening : List ℕ) (hs : List HostEntry) : Type 0 where
  pub room : is_dealt_round (plays_of hs) ≡ true → (open_round o opening hs).calls + potential o opening (plays_of hs) + slack o ≤ (open_round o opening hs).cards + 18
  pub closed : all_of ends (closed_rounds o opening hs) ≡ true

-- of three numbers the one that is 1 goes
one_of_three : (p : ℕ) → p < 3 → (u : ℕ → ℕ) → u p ≡ 1 → cond (eqb p 0) 0 (u 0) + cond (eqb p 1) 0 (u 1) + cond (eqb p 2) 0 (u 2) + 1 ≡ u 0 + u 1 + u 2
one_of_three p h u one = go (ℕ_discrete p 0) (ℕ_discrete p 1)
  where
    go : Dec (p ≡ 0) → Dec (p ≡ 1) → cond (eqb p 0) 0 (u 0) + cond (eqb p 1) 0 (u 1) + cond (eqb p 2) 0 (u 2) + 1 ≡ u 0 + u 1 + u 2
    go (yes e) d = simp (eq-eqb p 0 e, ne_eqb p 1 (λ z. omega arith), ne_eqb p 2 (λ z. omega arith)) (omega (arith, one, ap u e))
    go (no n) (yes e) = simp (ne_eqb p 0 n, eq-eqb p 1 e, ne_eqb p 2 (λ z. omega arith)) (omega (arith, one, ap u e))
    go (no n) (no m) = let e : p ≡ 2 = omega arith in simp (ne_eqb p 0 n, ne_eqb p 1 m, eq-eqb p 2 e) (omega (arith, one, ap u e))

module _ (o : Options) (opening : List ℕ) (hs : List HostEntry) (b : Bounded o opening hs) where
  abbrev es : List Entry
  es = plays_of hs

  abbrev entry : Call → List ℕ → Entry
  entry c order = record { call = c; order = order }

  -- a call of the table that ends no round leaves the closed rounds
  same-closed : (c : Call) (order : List ℕ) → is_end (entry c order) ≡ false → closed_rounds o opening (entry_of (Play c) order ∷ hs) ≡ closed_rounds o opening hs
  unfolding closed_by
  same-closed c order going =
      ap (λ (close : Bool). cond close (with_call (open_round o opening hs) (takes_after o opening es (entry c order)) ∷ closed_rounds o opening hs) (closed_rounds o opening hs))
      (or_eq_false (is_close (entry c order)) _ going).0

  still : (c : Call) (order : List ℕ) → is_end (entry c order) ≡ false → is_deal (entry c order) ≡ false → is_dealt_round (entry c order ∷ es) ≡ is_dealt_round es
  still c order going other = rw (going, other)

  -- between rounds
  pub quiet : (c : Call) (order : List ℕ) → is_end (entry c order) ≡ false → is_deal (entry c order) ≡ false → is_dealt_round es ≡ false → Bounded o opening (entry_of (Play c) order ∷ hs)
  unfolding with_play
  quiet c order going other between =
      record {
        room = λ dealt. absurd (true≢false (sym dealt ∙ still c order going other ∙ between));
        closed = ap (all_of ends) (same-closed c order going) ∙ b.closed;
      }

  -- in a dealt round, a call that adds no more than it draws
  pub goes_on_lem : (c : Call) (order : List ℕ) → is_end (entry c order) ≡ false → is_deal (entry c order) ≡ false → is_dealt_round es ≡ true
      → potential o opening (entry c order ∷ es) + 1 ≤ potential o opening es + takes_after o opening es (entry c order) → Bounded o opening (entry_of (Play c) order ∷ hs)
  unfolding with_play open_by open_after
  goes_on_lem c order going other dealt less =
      let opens : open_round o opening (entry_of (Play c) order ∷ hs) ≡ with_call (open_round o opening hs) (takes_after o opening es (entry c order)) = rw (going, other, dealt) in
      record {
        room = λ d. omega (arith, less, b.room dealt, ap (λ (r : RoundCount). r.calls) opens, ap (λ (r : RoundCount). r.cards) opens);
        closed = ap (all_of ends) (same-closed c order going) ∙ b.closed;
      }

  -- With a table that agrees with these calls.
  module _ (t : Table) (same : t.options ≡ o) (good : Good opening es t) where
    pub dealt_is : is_dealt t ≡ is_dealt_round es
    dealt_is = good.agrees.dealt

    abbrev cards : Cards
    cards = cards_of_history o opening es

    abbrev turn : ℕ
    turn = turn_in o cards (λ k. hands_in o opening es k)

    abbrev place_in : List Played → ℕ
    place_in hands = waiting_place o (get_or cards.bank 0 0) hands

    -- it is the turn of seat j, and a hand of it waits
    module _ (j : ℕ) (a : TurnAccepted t j) where
      turn_is : turn ≡ j
      turn_is = subst (λ (x : Options). turn_in x (cards_of_history x opening es) (λ k. hands_in x opening es k) ≡ j) same (history_turn opening es t good.agrees j a)

      within : j < o.seats
      within = subst (λ (x : Options). j < x.seats) same a.acting.within

      waits-here : seat_waits o (get_or cards.bank 0 0) (hands_in o opening es j) ≡ true
      waits-here =
          subst (λ (x : Options). seat_waits x (get_or (cards_of_history x opening es).bank 0 0) (hands_in x opening es j) ≡ true) same
          (ap₂ (λ (bank : List ℕ) (hs : List Played). seat_waits t.options (get_or bank 0 0) hs) (sym good.agrees.cards.bank) (sym (good.agrees.seats j).hands_are) ∙ a.waits)

      -- a decision that makes this of the hands of the seat in turn
      decided : (e : Entry) (k : ℕ) (change : List Played → ℕ → List Played)
          → ((i : ℕ) → hands_in o opening (e ∷ es) i ≡ cond (eqb i turn) (change (hands_in o opening es i) (place_in (hands_in o opening es i))) (hands_in o opening es i))
          → ((hands : List Played) (p : ℕ) → p < length hands → open_hand (get_or hands p missing_hand) ≡ 1 → open_hands (change hands p) + 1 ≤ open_hands hands + k)
          → guests_open o opening (e ∷ es) ≡ guests_open o opening es → potential o opening (e ∷ es) + 1 ≤ potential o opening es + k
      decided e k change makes less guests =
          let hands : List Played = hands_in o opening es j in
          let moved : hands_open o opening (e ∷ es) + open_hands hands ≡ hands_open o opening es + open_hands (hands_in o opening (e ∷ es) j) =
          below_change (λ i. open_hands (hands_in o opening (e ∷ es) i)) (λ i. open_hands (hands_in o opening es i)) o.seats j within
          (λ i l other. ap open_hands (makes i ∙ ap (λ (x : Bool). cond x (change (hands_in o opening es i) (place_in (hands_in o opening es i))) (hands_in o opening es i)) (ne_eqb i turn (λ z. other (z ∙ turn_is))))) in
          let here : hands_in o opening (e ∷ es) j ≡ change hands (place_in hands) =
          makes j ∙ ap (λ (x : Bool). cond x (change hands (place_in hands)) hands) (eq-eqb j turn (sym turn_is)) in
          omega (
            arith,
            moved,
            ap open_hands here,
            less hands (place_in hands) (place_inside o (get_or cards.bank 0 0) hands waits-here) (place_open o (get_or cards.bank 0 0) hands waits-here),
            guests,
          )

    in_round_lem : (j : ℕ) → TurnAccepted t j → is_dealt_round es ≡ true
    in_round_lem j a = sym dealt_is ∙ a.acting.dealt

    -- a hand that ends, that grows, and both
    ends_one : (hands : List Played) (p : ℕ) (h : Played) → open_hand h ≡ 0 → p < length hands → open_hand (get_or hands p missing_hand) ≡ 1 → open_hands (set hands p h) + 1 ≤ open_hands hands + 0
    ends_one hands p h ended l one = omega (arith, change_one hands p h l)

    pub stand-step : (at : At) (order : List ℕ) → first (turn_conditions t at.seat at.position) ≡ 0 → Bounded o opening (entry_of (Play (Stand at)) order ∷ hs)
    unfolding hands_after decide call_takes all_of
    stand-step at order e =
        let (a, _) = turn-accepted t at.seat at.position [] refl (ap first (append-nil (turn_conditions t at.seat at.position)) ∙ e) in
        goes_on_lem (Stand at) order refl refl (in_round_lem at.seat a)
        (decided at.seat a (entry (Stand at) order) 0 (λ hands p. set hands p (finished (get_or hands p missing_hand) by_stand)) (λ i. refl)
        (λ hands p l one. ends_one hands p (finished (get_or hands p missing_hand) by_stand) refl l one) refl)

    pub even_step : (at : At) (order : List ℕ) → first (even_conditions t at.seat at.position) ≡ 0 → Bounded o opening (entry_of (Play (Even at)) order ∷ hs)
    unfolding even_conditions hands_after decide call_takes all_of
    even_step at order e =
        let (a, _) = turn-accepted t at.seat at.position _ refl e in
        goes_on_lem (Even at) order refl refl (in_round_lem at.seat a)
        (decided at.seat a (entry (Even at) order) 0 (λ hands p. set hands p (finished (get_or hands p missing_hand) by_even)) (λ i. refl)
        (λ hands p l one. ends_one hands p (finished (get_or hands p missing_hand) by_even) refl l one) refl)

    pub five-step : (at : At) (order : List ℕ) → first (five_conditions t at.seat at.position) ≡ 0 → Bounded o opening (entry_of (Play (Five at)) order ∷ hs)
    unfolding five_conditions hands_after decide call_takes all_of
    five-step at order e =
        let (a, _) = turn-accepted t at.seat at.position _ refl e in
        goes_on_lem (Five at) order refl refl (in_round_lem at.seat a)
        (decided at.seat a (entry (Five at) order) 0 (λ hands p. set hands p (finished (get_or hands p missing_hand) by_five)) (λ i. refl)
        (λ hands p l one. ends_one hands p (finished (get_or hands p missing_hand) by_five) refl l one) refl)

    pub draw-step : (at : At) (order : List ℕ) → first (draw_conditions t at.seat at.position) ≡ 0 → Bounded o opening (entry_of (Play (Draw at)) order ∷ hs)
    unfolding draw_conditions hands_after decide call_takes all_of
    draw-step at order e =
        let (a, _) = turn-accepted t at.seat at.position _ refl e in
        goes_on_lem (Draw at) order refl refl (in_round_lem at.seat a)
        (decided at.seat a (entry (Draw at) order) 1 (λ hands p. set hands p (grown (get_or hands p missing_hand) (next_card cards 0))) (λ i. refl)
        (λ hands p l one. omega (arith, change_one hands p (grown (get_or hands p missing_hand) (next_card cards 0)) l)) refl)

    pub double-step : (at : At) (order : List ℕ) → first (double_conditions t at.seat at.position) ≡ 0 → Bounded o opening (entry_of (Play (Double at)) order ∷ hs)
    unfolding double_conditions hands_after decide call_takes all_of
    double-step at order e =
        let (a, _) = turn-accepted t at.seat at.position _ refl e in
        goes_on_lem (Double at) order refl refl (in_round_lem at.seat a)
        (decided at.seat a (entry (Double at) order) 1 (λ hands p. set hands p (finished (grown (get_or hands p missing_hand) (next_card cards 0)) by_double)) (λ i. refl)
        (λ hands p l one. omega (arith, change_one hands p (finished (grown (get_or hands p missing_hand) (next_card cards 0)) by_double) l)) refl)

    pub split_step : (at : At) (order : List ℕ) → first (split_conditions t at.seat at.position) ≡ 0 → Bounded o opening (entry_of (Play (Split at)) order ∷ hs)
    unfolding split_conditions hands_after decide call_takes split_hands split_one all_of
    split_step at order e =
        let (a, _) = turn-accepted t at.seat at.position _ refl e in
        goes_on_lem (Split at) order refl refl (in_round_lem at.seat a)
        (decided at.seat a (entry (Split at) order) 2 (λ hands p. split_hands hands p cards) (λ i. refl)
        (λ hands p l one.
        omega (
          arith,
          one,
          change_two hands p (split_one (get_or (get_or hands p missing_hand).cards 0 0) (next_card cards 0)) (split_one (get_or (get_or hands p missing_hand).cards 1 0) (next_card cards 1)) l,
        ))
        refl)

    -- an insurance: the guest is insured then, and no hand changes
    module _ (at : At) (n : ℕ) (order : List ℕ) (e : first (insure_conditions t at.seat at.position n) ≡ 0) where
      a : InsureAccepted t at.seat at.position n
      a = insure-accepted t at.seat at.position n e

      abbrev insures : Entry
      insures = entry (Insure at n) order

      some : 0 < n
      unfolding insure_conditions guest_conditions seat_conditions all_of
      some = let (_, (_, (_, (_, (_, (_, (_, (_, (none, _))))))))) = none_hold (insure_conditions t at.seat at.position n) refl e in let not_None = eqb-false n 0 none in omega arith

      was-uninsured : uninsured es at.seat at.position ≡ 1
      was-uninsured =
          let agrees = (good.agrees.seats at.seat).guests at.position in
          ap₂ (λ (x y : Bool). cond (x && y) 1 0)
          (ap (ltb 0) (sym agrees.stake_is) ∙ lt-ltb 0 _ a.staked)
          (ap (λ (k : ℕ). eqb k 0) (sym agrees.insurance_is) ∙ eq-eqb _ 0 a.none_yet)

      after : (i q : ℕ) → uninsured (insures ∷ es) i q ≡ cond (eqb at.seat i && eqb at.position q) 0 (uninsured es i q)
      after i q = go (eqb at.seat i && eqb at.position q)
        where
          go : (x : Bool) → cond (ltb 0 (stake_in es i q) && eqb (cond x n (insurance_in es i q)) 0) 1 0 ≡ cond x 0 (uninsured es i q)
          go true = ap (λ (y : Bool). cond (ltb 0 (stake_in es i q) && y) 1 0) (ne_eqb n 0 (λ z. omega (arith, some))) ∙ ap (λ (y : Bool). cond y 1 0) (and-false (ltb 0 (stake_in es i q)))
          go false = refl

      insured-one : seat_uninsured (insures ∷ es) at.seat + 1 ≡ seat_uninsured es at.seat
      insured-one =
          let here : (q : ℕ) → uninsured (insures ∷ es) at.seat q ≡ cond (eqb at.position q) 0 (uninsured es at.seat q) = λ q.
          after at.seat q ∙ ap (λ (x : Bool). cond (x && eqb at.position q) 0 (uninsured es at.seat q)) (eq-eqb at.seat at.seat refl) in
          omega (arith, here 0, here 1, here 2, one_of_three at.position a.position (uninsured es at.seat) was-uninsured)

      guests-less : guests_open o opening (insures ∷ es) + 1 ≡ guests_open o opening es
      guests-less =
          let inside : at.seat < o.seats = subst (λ (x : Options). at.seat < x.seats) same a.acting.within in
          omega (
            arith,
            insured-one,
            below_change (seat_uninsured (insures ∷ es)) (seat_uninsured es) o.seats at.seat inside (λ i l other.
                let elsewhere : (q : ℕ) → uninsured (insures ∷ es) i q ≡ uninsured es i q = λ q.
                after i q ∙ ap (λ (x : Bool). cond (x && eqb at.position q) 0 (uninsured es i q)) (ne_eqb at.seat i (λ z. other (sym z))) in
                omega (arith, elsewhere 0, elsewhere 1, elsewhere 2)),
          )

      hands-same : hands_open o opening (insures ∷ es) ≡ hands_open o opening es
      unfolding hands_after decide
      hands-same = sum_below-same (λ i. open_hands (hands_in o opening (insures ∷ es) i)) (λ i. open_hands (hands_in o opening es i)) o.seats (λ i l. ap open_hands (cond_same (eqb i turn) (hands_in o opening es i)))

      pub insure-step : Bounded o opening (entry_of (Play (Insure at n)) order ∷ hs)
      unfolding call_takes
      insure-step = goes_on_lem (Insure at n) order refl refl (sym dealt_is ∙ a.acting.dealt) (omega (arith, guests-less, hands-same))

    -- surrender: the seat's only hand ends
    module _ (at : At) (order : List ℕ) (e : first (surrender_conditions t at.seat at.position) ≡ 0) where
      given-up : SurrenderAccepted t at.seat
      given-up = surrender-accepted t at.seat at.position e

      abbrev only : List Played
      only = hands_in o opening es at.seat

      only-waits : seat_waits o (get_or cards.bank 0 0) only ≡ true
      only-waits =
          subst (λ (x : Options). seat_waits x (get_or (cards_of_history x opening es).bank 0 0) (hands_in x opening es at.seat) ≡ true) same
          (ap₂ (λ (bank : List ℕ) (hs : List Played). seat_waits t.options (get_or bank 0 0) hs) (sym good.agrees.cards.bank) (sym (good.agrees.seats at.seat).hands_are) ∙ given-up.waits)

      only_one : length only ≡ 1
      only_one =
          let hands_are : hands (seat_at t at.seat) ≡ only = subst (λ (x : Options). hands (seat_at t at.seat) ≡ hands_in x opening es at.seat) same (good.agrees.seats at.seat).hands_are in
          omega (arith, not_split t at.seat good.shaped given-up.acting.nine given-up.early, ap length hands_are, place_inside o (get_or cards.bank 0 0) only only-waits)

      pub surrender-step : Bounded o opening (entry_of (Play (Surrender at)) order ∷ hs)
      unfolding call_takes hands_after surrenders
      surrender-step =
          let inside : at.seat < o.seats = subst (λ (x : Options). at.seat < x.seats) same given-up.acting.within in
          let first-place : place_in only ≡ 0 = omega (arith, place_inside o (get_or cards.bank 0 0) only only-waits, only_one) in
          let one : open_hand (get_or only 0 missing_hand) ≡ 1 = ap (λ (p : ℕ). open_hand (get_or only p missing_hand)) (sym first-place) ∙ place_open o (get_or cards.bank 0 0) only only-waits in
          let gives_up : Entry = entry (Surrender at) order in
          let moved : hands_open o opening (gives_up ∷ es) + open_hands only ≡ hands_open o opening es + open_hands (hands_in o opening (gives_up ∷ es) at.seat) =
          below_change (λ i. open_hands (hands_in o opening (gives_up ∷ es) i)) (λ i. open_hands (hands_in o opening es i)) o.seats at.seat inside
          (λ i l other. ap (λ (x : Bool). open_hands (cond x (surrenders (hands_in o opening es i)) (hands_in o opening es i))) (ne_eqb at.seat i (λ z. other (sym z)))) in
          let here : hands_in o opening (gives_up ∷ es) at.seat ≡ surrenders only = ap (λ (x : Bool). cond x (surrenders only) only) (eq-eqb at.seat at.seat refl) in
          goes_on_lem (Surrender at) order refl refl (sym dealt_is ∙ given-up.acting.dealt)
          (omega (arith, moved, ap open_hands here, change_one only 0 (finished (get_or only 0 missing_hand) by_surrender) (omega (arith, only_one)), one))

    -- a deal: each staked seat has a hand, and at most three guests without an insurance
    module _ (order : List ℕ) (e : first (deal_conditions t) ≡ 0) where
      dealt-now : DealAccepted t
      dealt-now = deal-accepted t e

      abbrev deals : Entry
      deals = entry Deal order

      abbrev staked : ℕ → ℕ
      staked i = cond (ltb 0 (stake_in es i 0)) 1 0

      one-hand : (i : ℕ) → open_hands (hands_in o opening (deals ∷ es) i) ≡ staked i
      unfolding hands_after dealt_hand sum_of
      one-hand i = go (ltb 0 (stake_in es i 0))
        where
          go : (x : Bool) → open_hands (cond x (dealt_hand o cards (staked_below es i) (staked_below es o.seats) ∷ []) []) ≡ cond x 1 0
          go true = refl
          go false = refl

      hands-dealt : hands_open o opening (deals ∷ es) ≡ staked_below es o.seats
      hands-dealt = sum_below-same (λ i. open_hands (hands_in o opening (deals ∷ es) i)) staked o.seats (λ i l. one-hand i)

      nine : o.seats ≤ 9
      nine = subst (λ (x : Options). x.seats ≤ 9) same (sound_options t good.sound).seats_most

      -- nobody stakes before the seated guest
      unstaked : (i p : ℕ) → i < 9 → p < 3 → stake_in es i 0 ≡ 0 → stake_in es i p ≡ 0
      unstaked i p hi hp none =
          let a = (good.agrees.seats i).guests in
          let seated : stake (seat_at t i) ≡ 0 = ap stake (sym (guest-seated (seat_at t i))) ∙ (a 0).stake_is ∙ none in
          sym (a p).stake_is ∙ (good.sound.seats i hi).seated_first_lem p hp seated

      at-most-three : (i : ℕ) → i < o.seats → seat_uninsured es i ≤ 3 * staked i
      at-most-three i l = go (ltb 0 (stake_in es i 0)) refl
        where
          one : (q : ℕ) → uninsured es i q ≤ 1
          one q = cond_most (ltb 0 (stake_in es i q) && eqb (insurance_in es i q) 0) (omega arith) (omega arith)

          none_of : (q : ℕ) → stake_in es i q ≡ 0 → uninsured es i q ≡ 0
          none_of q z = ap (λ (n : ℕ). cond (ltb 0 n && eqb (insurance_in es i q) 0) 1 0) z

          go : (x : Bool) → ltb 0 (stake_in es i 0) ≡ x → seat_uninsured es i ≤ 3 * cond x 1 0
          go true s = omega (arith, one 0, one 1, one 2)
          go false s =
              let zero-stake : stake_in es i 0 ≡ 0 = omega (arith, ltb-false 0 (stake_in es i 0) s) in
              omega (arith, none_of 0 zero-stake, none_of 1 (unstaked i 1 (omega (arith, nine)) (omega arith) zero-stake), none_of 2 (unstaked i 2 (omega (arith, nine)) (omega arith) zero-stake))

      guests-dealt : guests_open o opening (deals ∷ es) ≤ 3 * staked_below es o.seats
      guests-dealt = below_most (seat_uninsured es) staked 3 o.seats at-most-three

      few-staked : staked_below es o.seats ≤ 9
      few-staked = omega (arith, nine, below_most staked (λ i. 1) 1 o.seats (λ i l. omega (arith, cond_most (ltb 0 (stake_in es i 0)) {x = 1} {y = 0} {k = 1} (omega arith) (omega arith))), sum_below-each (λ i. 1) o.seats 1 (λ i l. refl))

      bank_cards_lem : cond (is_box o) 2 1 ≡ 1 + slack o
      bank_cards_lem = go (is_box o)
        where
          go : (x : Bool) → cond x 2 1 ≡ 1 + cond x 1 0
          go true = refl
          go false = refl

      pub deal-step : Bounded o opening (entry_of (Play Deal) order ∷ hs)
      unfolding with_play open_by open_after call_takes closed_by
      deal-step =
          record {
            room = λ d. omega (arith, hands-dealt, guests-dealt, few-staked, bank_cards_lem);
            closed = b.closed;
          }

    -- a close draws a card, or is the box's, for which one is in hand
    close-takes : (order : List ℕ) → 1 ≤ takes_after o opening es (entry Close order) + slack o
    unfolding call_takes bank_taken
    close-takes order = go (is_box o) refl
      where
        go : (x : Bool) → is_box o ≡ x → 1 ≤ takes_after o opening es (entry Close order) + cond x 1 0
        go true e = omega arith
        go false e = simp e (omega arith)

    pub close-step : (order : List ℕ) → first (close_conditions t) ≡ 0 → Bounded o opening (entry_of (Play Close) order ∷ hs)
    unfolding with_play closed_by all_of
    close-step order e =
        let dealt : is_dealt_round es ≡ true = sym dealt_is ∙ (close-accepted t e).dealt in
        record {
          room = λ d. absurd (true≢false (sym d));
          closed =
              ap₂ ◌&&◌
              (le-leb ((open_round o opening hs).calls + 1) ((open_round o opening hs).cards + takes_after o opening es (entry Close order) + 18) (omega (arith, b.room dealt, close-takes order)))
              b.closed;
        }

    pub void-step : (order : List ℕ) → Bounded o opening (entry_of (Play Void) order ∷ hs)
    unfolding with_play closed_by
    void-step order = record { room = λ d. absurd (true≢false (sym d)); closed = b.closed }
