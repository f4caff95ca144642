-- What an accepted decision in turn gives: the seat acts and its turn has come, so a hand of it waits, and by the history too it is that seat's turn.
use mathlib.Core.Path.{◌≡◌, sym, ◌∙◌, ap, ap₂}
use mathlib.Core.Bool.{true}
use mathlib.Core.List.{List, ◌++◌}
use Prim.Native.Nat.{ℕ, ◌≤◌, ◌<◌}
use native.Mathlib.Omega.{arith}
use native.Mathlib.Decide.{dec_le}
use lib.Dec.{ltb, eqb}
use lib.ListN.{length, get_or, length-map, get_or-map, get_or-eq_default}
use borrow.Author.Tests.{eqb-true, not-false}
use Rattle.lists.specs.Tests.{all_of}
use Rattle.lists.proofs.Tests.{first_passes, before-first}
use Rattle.lists.proofs.Below.{first_below_lem}
use Rattle.rules.specs.SeatHand.{Played}
use Rattle.rules.specs.Turn.{seat_waits, turn_seat}
use Rattle.call.specs.Refusal.{Condition, first}
use Rattle.call.proofs.Refusals.{NoneHold, none_hold}
use Rattle.table.specs.declared.Table.{Table}
use Rattle.table.specs.Seat.{missing_seat, stake, hands}
use Rattle.table.specs.Table.{seat_at, seats_hands, up}
use Rattle.table.specs.Shape.{Shaped}
use Rattle.table.specs.Aids.Sound.{Sound}
use Rattle.history.specs.Entry.{Entry}
use Rattle.history.specs.Cards.{cards_of_history}
use Rattle.history.specs.Hands.{turn_in, hands_in}
use Rattle.agreement.specs.Aids.Agrees.{Agrees}
use Rattle.answer.specs.Conditions.{seat_conditions, guest_conditions}
use Rattle.decisions_spec.specs.Turn.{turn_conditions, waiting_place_of}
use Rattle.decisions_spec.proofs.Acting.{Acting, acting, Waiting, seat-waiting}

pub record TurnAccepted (t : Table) (j : ℕ) : Type 0 where
  pub acting : Acting t j
  pub turn : turn_seat t.options (up t) (seats_hands t) ≡ j
  pub waits : seat_waits t.options (up t) (hands (seat_at t j)) ≡ true

-- a staked seat is one that the table has
staked_inside : (t : Table) (j : ℕ) → 0 < stake (seat_at t j) → j < length t.seats
staked_inside t j staked = go (dec_le (length t.seats) j)
  where
    go : Dec (length t.seats ≤ j) → j < length t.seats
    go (yes h) = absurd (omega (arith, ap stake (get_or-eq_default t.seats missing_seat h)))
    go (no h) = omega arith

-- in the seat whose turn it is a hand waits
turn-waits : (t : Table) (j : ℕ) → 0 < stake (seat_at t j) → turn_seat t.options (up t) (seats_hands t) ≡ j → seat_waits t.options (up t) (hands (seat_at t j)) ≡ true
turn-waits t j staked turn =
    let test = seat_waits t.options (up t) in
    let inside : turn_seat t.options (up t) (seats_hands t) < length (seats_hands t) = omega (arith, length-map t.seats hands, staked_inside t j staked) in
    ap test (sym (get_or-map hands t.seats j missing_seat))
    ∙ ap (λ (i : ℕ). test (get_or (seats_hands t) i (hands missing_seat))) (sym turn)
    ∙ first_passes test (seats_hands t) (hands missing_seat) inside

-- `rest`: what the call asks behind the conditions in turn, of which none holds either
pub turn-accepted : (t : Table) (j p : ℕ) (rest : List Condition) → all_of (λ c. ltb 0 c.0) rest ≡ true → first (turn_conditions t j p ++ rest) ≡ 0 → TurnAccepted t j × NoneHold rest
unfolding turn_conditions guest_conditions seat_conditions all_of
turn-accepted t j p rest numbers e =
    let (unbroken, (in_round_lem, (such-seat, (such-position, (staked, (in_turn_lem, (_, behind))))))) = none_hold (turn_conditions t j p ++ rest) numbers e in
    let act = acting t j p unbroken in_round_lem such-seat such-position staked in
    let turn = eqb-true (turn_seat t.options (up t) (seats_hands t)) j (not-false (eqb (turn_seat t.options (up t) (seats_hands t)) j) in_turn_lem) in
    (record { acting = act; turn = turn; waits = turn-waits t j act.staked turn }, behind)

pub turn-waiting : (t : Table) → Shaped t → Sound t → (j : ℕ) → TurnAccepted t j → Waiting t j (waiting_place_of t j)
turn-waiting t shaped sound j a = seat-waiting t shaped sound j a.acting a.waits

-- by the history it is that seat's turn: no seat before it has a waiting hand
pub history_turn : (opening : List ℕ) (es : List Entry) (t : Table) → Agrees opening es t → (j : ℕ) → TurnAccepted t j
    → turn_in t.options (cards_of_history t.options opening es) (λ k. hands_in t.options opening es k) ≡ j
history_turn opening es t agrees j a =
    let o = t.options in
    let c = cards_of_history o opening es in
    let test = seat_waits o (up t) in
    let same : (k : ℕ) → seat_waits o (get_or c.bank 0 0) (hands_in o opening es k) ≡ test (hands (seat_at t k)) = λ k.
    ap₂ (λ (bank : List ℕ) (hs : List Played). seat_waits o (get_or bank 0 0) hs) (sym agrees.cards.bank) (sym (agrees.seats k).hands_are) in
    first_below_lem (λ k. seat_waits o (get_or c.bank 0 0) (hands_in o opening es k)) o.seats j a.acting.within
    (λ k before. same k ∙ ap test (sym (get_or-map hands t.seats k missing_seat)) ∙ before-first test (seats_hands t) (hands missing_seat) k (omega (arith, a.turn)))
    (same j ∙ a.waits)
