-- The fields: dark on a broken table and beyond the options, and no smaller amount is accepted than the one that lights a field.
use mathlib.Core.Path.{◌≡◌, refl, ap}
use mathlib.Core.Bool.{Bool, true, false, and-eq-true_iff}
use mathlib.Core.List.{List, [], ◌∷◌}
use Prim.Native.Nat.{ℕ, ◌*◌, ◌/◌, ◌≤◌, ◌<◌}
use native.Mathlib.Nat.{div-add-mod'}
use native.Mathlib.Omega.{arith}
use lib.Dec.{leb, eqb}
use borrow.Author.Tests.{eqb-true, leb-true, leb-false, lt-leb, ne_eqb}
use Rattle.lists.proofs.Tests.{and_at}
use Rattle.call.specs.declared.At.{At}
use Rattle.call.specs.declared.Call.{Call}
use Rattle.call.specs.declared.Call.TheVariants.{Buy, Cash, Stake, Insure, Stand, Draw, Double, Split, Surrender, Even, Five, Side}
use Rattle.call.specs.Refusal.{Condition, first}
use Rattle.call.proofs.Refusals.{accepted-head, accepted_tail}
use Rattle.options.specs.declared.Options.{Options}
use Rattle.options.specs.Permitted.{stake_permitted, insurance_permitted}
use Rattle.options.specs.Ranges.{is_even_number}
use Rattle.table.specs.declared.Table.{Table}
use Rattle.table.specs.Seat.{stake}
use Rattle.table.specs.Table.{guest_of, is_dealt, no_such_seat}
use Rattle.table.specs.Broken.{broken}
use Rattle.answer.specs.Conditions.{seat_conditions, guest_conditions}
use Rattle.answer.specs.Reply.{reply_by}
use Rattle.cashier_spec.specs.Buy.{buy_conditions}
use Rattle.cashier_spec.specs.Cash.{cash_conditions}
use Rattle.cashier_spec.specs.Stake.{stake_conditions}
use Rattle.cashier_spec.specs.Side.{side_conditions}
use Rattle.cashier_spec.proofs.Buy.{buy-accepted}
use Rattle.cashier_spec.proofs.Cash.{cash-accepted}
use Rattle.cashier_spec.proofs.Stake.{stake-accepted}
use Rattle.cashier_spec.proofs.Side.{side-accepted}
use Rattle.decisions_spec.specs.Insure.{insure_conditions}
use Rattle.decisions_spec.specs.Surrender.{surrender_conditions}
use Rattle.decisions_spec.specs.Turn.{turn_conditions}
use Rattle.decisions_spec.specs.Draw.{draw_conditions}
use Rattle.decisions_spec.specs.Double.{double_conditions}
use Rattle.decisions_spec.specs.Split.{split_conditions}
use Rattle.decisions_spec.specs.Even.{even_conditions}
use Rattle.decisions_spec.specs.Five.{five_conditions}
use Rattle.decisions_spec.proofs.Insure.{insure-accepted}
use Rattle.engine.specs.Step.{step, number}
use Rattle.engine.proofs.BrokenTable.{broken-one}
use Rattle.dealer_screen.specs.Lights.{accepts, smallest_stake, smallest_insurance, lights_at, seat_lights, guest_at_seat}
use Rattle.dealer_screen.specs.Laws.{Smallest, dark, Dark}

-- where every call is refused no field is lit
refused-dark : (t : Table) (at : At) → ((c : Call) → accepts t c ≡ false) → lights_at t at ≡ dark
unfolding lights_at
refused-dark t at none = simp none

pub broken-dark : (t : Table) (at : At) → broken t ≡ true → lights_at t at ≡ dark
broken-dark t at damaged = refused-dark t at (λ c. ap (λ (n : ℕ). eqb n 0) (broken-one t damaged c []))

pub broken-seat : (t : Table) (seat : ℕ) → broken t ≡ true → record { guests = dark ∷ dark ∷ dark ∷ [] } ≡ seat_lights t seat
unfolding seat_lights
broken-seat t seat damaged = simp (broken-dark t (guest_at_seat seat 0) damaged, broken-dark t (guest_at_seat seat 1) damaged, broken-dark t (guest_at_seat seat 2) damaged)

-- an accepted call of a guest names a seat and a position of the table, which it asks third and fourth
module _ (a b : Bool) (c d : Bool) (phase : ℕ) (rest : List Condition) (some : 0 < phase) where
  third : first ((1, a) ∷ (phase, b) ∷ (8, c) ∷ rest) ≡ 0 → c ≡ false
  third e = accepted-head 8 c rest (omega arith) (accepted_tail phase b ((8, c) ∷ rest) some (accepted_tail 1 a ((phase, b) ∷ (8, c) ∷ rest) (omega arith) e))

  third-and-fourth : first ((1, a) ∷ (phase, b) ∷ (8, c) ∷ (22, d) ∷ rest) ≡ 0 → (c ≡ false) × (d ≡ false)
  third-and-fourth e =
      let behind = accepted_tail phase b ((8, c) ∷ (22, d) ∷ rest) some (accepted_tail 1 a ((phase, b) ∷ (8, c) ∷ (22, d) ∷ rest) (omega arith) e) in
      (accepted-head 8 c ((22, d) ∷ rest) (omega arith) behind, accepted-head 22 d rest (omega arith) (accepted_tail 8 c ((22, d) ∷ rest) (omega arith) behind))

Inside : Table → At → Call → Type 0
Inside t at c = number t c [] ≡ 0 → (no_such_seat t at.seat ≡ false) × (leb 3 at.position ≡ false)

module _ (t : Table) (at : At) where
  buy-inside : (n : ℕ) → Inside t at (Buy at n)
  unfolding Inside number step reply_by buy_conditions guest_conditions seat_conditions
  buy-inside n e = third-and-fourth _ _ _ _ 4 _ (omega arith) e

  cash-inside : (n : ℕ) → Inside t at (Cash at n)
  unfolding Inside number step reply_by cash_conditions guest_conditions seat_conditions
  cash-inside n e = third-and-fourth _ _ _ _ 4 _ (omega arith) e

  stake-inside : (n : ℕ) → Inside t at (Stake at n)
  unfolding Inside number step reply_by stake_conditions guest_conditions seat_conditions
  stake-inside n e = third-and-fourth _ _ _ _ 4 _ (omega arith) e

  insure-inside : (n : ℕ) → Inside t at (Insure at n)
  unfolding Inside number step reply_by insure_conditions guest_conditions seat_conditions
  insure-inside n e = third-and-fourth _ _ _ _ 5 _ (omega arith) e

  stand-inside : Inside t at (Stand at)
  unfolding Inside number step reply_by turn_conditions guest_conditions seat_conditions
  stand-inside e = third-and-fourth _ _ _ _ 5 _ (omega arith) e

  draw-inside : Inside t at (Draw at)
  unfolding Inside number step reply_by draw_conditions turn_conditions guest_conditions seat_conditions
  draw-inside e = third-and-fourth _ _ _ _ 5 _ (omega arith) e

  double-inside : Inside t at (Double at)
  unfolding Inside number step reply_by double_conditions turn_conditions guest_conditions seat_conditions
  double-inside e = third-and-fourth _ _ _ _ 5 _ (omega arith) e

  split-inside : Inside t at (Split at)
  unfolding Inside number step reply_by split_conditions turn_conditions guest_conditions seat_conditions
  split-inside e = third-and-fourth _ _ _ _ 5 _ (omega arith) e

  surrender-inside : Inside t at (Surrender at)
  unfolding Inside number step reply_by surrender_conditions guest_conditions seat_conditions
  surrender-inside e = third-and-fourth _ _ _ _ 5 _ (omega arith) e

  even-inside : Inside t at (Even at)
  unfolding Inside number step reply_by even_conditions turn_conditions guest_conditions seat_conditions
  even-inside e = third-and-fourth _ _ _ _ 5 _ (omega arith) e

  five-inside : Inside t at (Five at)
  unfolding Inside number step reply_by five_conditions turn_conditions guest_conditions seat_conditions
  five-inside e = third-and-fourth _ _ _ _ 5 _ (omega arith) e

  -- a side stake asks for its kind between the two
  side-inside : (k n : ℕ) → Inside t at (Side at k n)
  unfolding Inside number step reply_by side_conditions seat_conditions
  side-inside k n e =
      let ok = side-accepted t at.seat at.position k n e in
      (third (broken t) (is_dealt t) (no_such_seat t at.seat) false 4 _ (omega arith) e, lt-leb 3 at.position ok.guest.position)

  -- so beyond them every field is dark
  outside : (c : Call) → Inside t at c → (no_such_seat t at.seat ≡ false → leb 3 at.position ≡ false → ⊥) → accepts t c ≡ false
  unfolding Inside
  outside c inside out = ne_eqb (number t c []) 0 (λ e. let (seat, position) = inside e in out seat position)

  outside-dark : (no_such_seat t at.seat ≡ false → leb 3 at.position ≡ false → ⊥) → lights_at t at ≡ dark
  unfolding lights_at
  outside-dark out =
      simp (
        outside (Buy at 1) (buy-inside 1) out,
        outside (Cash at 1) (cash-inside 1) out,
        outside (Stake at (smallest_stake t)) (stake-inside (smallest_stake t)) out,
        outside (Insure at (smallest_insurance t at)) (insure-inside (smallest_insurance t at)) out,
        outside (Stand at) stand-inside out,
        outside (Draw at) draw-inside out,
        outside (Double at) double-inside out,
        outside (Split at) split-inside out,
        outside (Surrender at) surrender-inside out,
        outside (Even at) even-inside out,
        outside (Five at) five-inside out,
        outside (Side at 1 1) (side-inside 1 1) out,
        outside (Side at 2 1) (side-inside 2 1) out,
        outside (Side at 3 1) (side-inside 3 1) out,
        outside (Side at 4 1) (side-inside 4 1) out,
      )

pub darkness : (t : Table) (at : At) → Dark t at
darkness t at =
    record {
      if_broken = broken-dark t at;
      no_seat = λ h. outside-dark t at (λ seat position. omega (arith, leb-false t.options.seats at.seat seat));
      no_position_lem = λ h. outside-dark t at (λ seat position. omega (arith, leb-false 3 at.position position));
    }

-- no smaller amount is accepted
insurance_least : (o : Options) (S n : ℕ) → insurance_permitted o S n ≡ true → S / 2 ≤ n
unfolding insurance_permitted
insurance_least o S n e = go (eqb o.insurance 1) refl
  where
    go : (b : Bool) → eqb o.insurance 1 ≡ b → S / 2 ≤ n
    go true f = omega (arith, div-add-mod' S 2, eqb-true (2 * n) S (simp f at e))
    go false f = omega (arith, div-add-mod' S 2, leb-true S (2 * n) ((and-eq-true_iff (leb S (2 * n)) (leb n S)).0 (simp f at e)).0)

pub smallest : (t : Table) (at : At) → Smallest t at
unfolding number step reply_by stake_permitted
smallest t at =
    let j = at.seat in
    let p = at.position in
    record {
      buy = λ n e. (buy-accepted t j p n (eqb-true _ 0 e)).some;
      cash = λ n e. (cash-accepted t j p n (eqb-true _ 0 e)).some;
      stake = λ n e. let permitted = (stake-accepted t j p n (eqb-true _ 0 e)).permitted in leb-true t.options.smallest n (and_at (leb t.options.smallest n ∷ leb n t.options.largest ∷ is_even_number n ∷ []) permitted 0);
      insure = λ n e. insurance_least t.options (stake (guest_of t j p)) n (insure-accepted t j p n (eqb-true _ 0 e)).permitted;
      side = λ k n e. (side-accepted t j p k n (eqb-true _ 0 e)).some;
    }
