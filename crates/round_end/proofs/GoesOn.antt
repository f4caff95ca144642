-- A round can always go on: a waiting hand is one of a staked seat of the option, whose deciding guest has a stake; and in a dealt round somebody has staked.
use mathlib.Core.Path.{◌≡◌, refl, sym, ◌∙◌, ap}
use mathlib.Core.Bool.{Bool, true, false, cond, ◌&&◌, and-eq-true_iff}
use mathlib.Core.List.{List}
use Prim.Native.Nat.{ℕ, ◌≤◌, ◌<◌}
use native.Mathlib.Decide.{dec_le}
use native.Mathlib.Omega.{arith}
use lib.Dec.{ltb, eqb}
use lib.ListN.{length, take, length-map, length-take, get_or-map}
use borrow.Author.Tests.{ltb-true, lt-ltb, lt-leb, eq-eqb}
use Rattle.lists.specs.Tests.{first_place}
use Rattle.lists.proofs.Tests.{first_inside, first_passes}
use Rattle.call.specs.declared.Call.TheVariants.{Stand, Close, Void}
use Rattle.call.specs.Refusal.{first}
use Rattle.options.specs.declared.Options.{Options}
use Rattle.options.specs.Decider.{largest_stake, deciding_position}
use Rattle.payment.specs.Bank.{must_draw}
use Rattle.rules.specs.SeatHand.{played_of}
use Rattle.rules.specs.Waits.{waits}
use Rattle.rules.specs.Turn.{seat_waits, turn_seat}
use Rattle.table.specs.declared.Seat.{Seat}
use Rattle.table.specs.declared.Table.{Table}
use Rattle.table.specs.Seat.{missing_seat, stake, hands, decider}
use Rattle.table.specs.Table.{seat_at, guest_of, seats_hands, is_dealt, up}
use Rattle.table.proofs.Facts.{unbroken}
use Rattle.table.proofs.Guests.{guest-seated}
use Rattle.answer.specs.Conditions.{seat_conditions, guest_conditions}
use Rattle.answer.specs.Reply.{reply_by}
use Rattle.decisions_spec.specs.Turn.{turn_conditions}
use Rattle.close_spec.specs.BankDraw.{bank_at_close}
use Rattle.close_spec.specs.Close.{close_conditions}
use Rattle.close_spec.specs.Void.{void_conditions}
use Rattle.books.specs.Laws.{Whole}
use Rattle.engine.specs.Step.{step, number}
use Rattle.round_end.specs.GoesOn.{waiting, in_turn, CanGoOn}

-- the deciding position is one of the three, and has a stake where the seated guest has
module _ (o : Options) (u : ℕ → ℕ) (seated : 0 < u 0) where
  decides : (deciding_position o (u 0) (u 1) (u 2) < 3) × (0 < u (deciding_position o (u 0) (u 1) (u 2)))
  unfolding deciding_position largest_stake
  decides = go (eqb o.decider 1) (ltb (u 0) (u 1) && ltb (u 2) (u 1)) (ltb (u 0) (u 2) && ltb (u 1) (u 2)) refl refl
    where
      Good : ℕ → Type 0
      Good p = (p < 3) × (0 < u p)

      go : (one second third : Bool) → ltb (u 0) (u 1) && ltb (u 2) (u 1) ≡ second → ltb (u 0) (u 2) && ltb (u 1) (u 2) ≡ third → Good (cond one 0 (cond second 1 (cond third 2 0)))
      go true second third s e = (omega arith, seated)
      go false true third s e = (omega arith, omega (arith, ltb-true (u 0) (u 1) ((and-eq-true_iff (ltb (u 0) (u 1)) (ltb (u 2) (u 1))).0 s).0))
      go false false true s e = (omega arith, omega (arith, ltb-true (u 0) (u 2) ((and-eq-true_iff (ltb (u 0) (u 2)) (ltb (u 1) (u 2))).0 e).0))
      go false false false s e = (omega arith, seated)

module _ (t : Table) (whole : Whole t) (dealt : is_dealt t ≡ true) where
  abbrev seat : ℕ
  seat = turn_seat t.options (up t) (seats_hands t)

  module _ (some : waiting t ≡ true) where
    inside : seat < length (seats_hands t)
    inside = ltb-true seat (length (seats_hands t)) (first_inside (seat_waits t.options (up t)) (seats_hands t) ∙ some)

    nine : seat < 9
    nine = omega (arith, inside, length-map t.seats hands, whole.shaped.nine_seats_lem)

    waits_there : seat_waits t.options (up t) (hands (seat_at t seat)) ≡ true
    waits_there =
        ap (seat_waits t.options (up t)) (sym (get_or-map hands t.seats seat missing_seat))
        ∙ first_passes (seat_waits t.options (up t)) (seats_hands t) (hands missing_seat) inside

    -- it has a hand, so it is one of the option's and its seated guest has a stake
    has-hand : 0 < (seat_at t seat).hands.many
    has-hand =
        let s = seat_at t seat in
        let test = waits t.options (up t) (length (hands s)) in
        let some-hand : first_place test (hands s) < length (hands s) = ltb-true (first_place test (hands s)) (length (hands s)) (first_inside test (hands s) ∙ waits_there) in
        omega (arith, some-hand, length-map (take s.hands.many s.hands.places) played_of, length-take s.hands.many s.hands.places)

    staked : 0 < stake (seat_at t seat)
    staked = (((unbroken t whole.sound).seats seat nine).playing has-hand).staked

    within : seat < t.options.seats
    within = go (dec_le t.options.seats seat)
      where
        go : Dec (t.options.seats ≤ seat) → seat < t.options.seats
        go (yes beyond) = absurd (omega (arith, has-hand, ((((unbroken t whole.sound).seats seat nine).guests 0 (omega arith)).beyond beyond).no_hands, ap (λ (s : Seat). s.hands.many) (guest-seated (seat_at t seat))))
        go (no less) = omega arith

    abbrev stakes : ℕ → ℕ
    stakes p = stake (guest_of t seat p)

    seated : 0 < stakes 0
    seated = omega (arith, staked, ap stake (guest-seated (seat_at t seat)))

    stands : (lent : List ℕ) → number t (Stand (in_turn t)) lent ≡ 0
    unfolding number step reply_by turn_conditions guest_conditions seat_conditions first
    stands lent =
        let (position, has-stake) = decides t.options stakes seated in
        simp (
          whole.sound,
          dealt,
          lt-leb t.options.seats seat within,
          lt-leb 3 (decider t.options (seat_at t seat)) position,
          lt-ltb 0 (stake (guest_of t seat (decider t.options (seat_at t seat)))) has-stake,
          eq-eqb seat seat refl,
          eq-eqb (decider t.options (seat_at t seat)) (decider t.options (seat_at t seat)) refl,
        )

  closes : (lent : List ℕ) → waiting t ≡ false → number t Close lent ≡ cond (eqb (number t Close lent) 18) 18 0
  unfolding number step reply_by close_conditions first
  closes lent none = is ∙ sym (ap (λ (n : ℕ). cond (eqb n 18) 18 0) is ∙ back (must_draw (bank_at_close t)))
    where
      is : number t Close lent ≡ cond (must_draw (bank_at_close t)) 18 0
      is = simp (whole.sound, dealt, none)

      back : (b : Bool) → cond {A = ℕ} (eqb (cond b 18 0) 18) 18 0 ≡ cond b 18 0
      back true = refl
      back false = refl

  voids : (lent : List ℕ) → number t Void lent ≡ 0
  unfolding number step reply_by void_conditions first
  voids lent = simp (whole.sound, (unbroken t whole.sound).round dealt)

pub can_go_on : CanGoOn
can_go_on t lent whole dealt = record { stand = λ some. stands t whole dealt some lent; close = closes t whole dealt lent; void = voids t whole dealt lent }
