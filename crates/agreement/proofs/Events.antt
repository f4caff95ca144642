-- Number 12 asks the hands on the table whether somebody has drawn, doubled or split, and whether a decision was taken. What a call makes of one seat's
-- hands tells what it makes of the two answers.
use mathlib.Core.Path.{◌≡◌, sym, ◌∙◌, ap}
use mathlib.Core.Bool.{Bool, true, false, ◌||◌, or-true}
use mathlib.Core.List.{List, map}
use Prim.Native.Nat.{ℕ, ◌<◌}
use lib.Dec.{ltb}
use lib.ListN.{length, set, length-map, get_or-map}
use Rattle.lists.specs.Tests.{any_of}
use Rattle.lists.proofs.Tests.{or_eq_false, any_both, any_set_or, not_any}
use Rattle.lists.proofs.Places.{map-set}
use Rattle.rules.specs.SeatHand.{Played}
use Rattle.rules.specs.Drew.{seat_drew}
use Rattle.table.specs.declared.Seat.{Seat}
use Rattle.table.specs.declared.Table.{Table}
use Rattle.table.specs.Seat.{missing_seat, hands}
use Rattle.table.specs.Table.{seat_at, seats_hands}
use Rattle.table.specs.Progress.{any_drew, any_decided}
use Rattle.history.specs.Entry.{Entry, is_drawing, is_decision}
use Rattle.agreement.proofs.Groups.{no_drawing}

-- a hand of the seat has ended by a decision; and a decision of the seat was taken
abbrev pub seat_ended : List Played → Bool
seat_ended hands = any_of (λ h. ltb 0 h.ended) hands

abbrev pub seat_decided : List Played → Bool
seat_decided hands = seat_drew hands || seat_ended hands

any_decided_lem : (t : Table) → any_decided t ≡ any_of seat_decided (seats_hands t)
unfolding any_decided any_drew
any_decided_lem t = sym (any_both seat_drew seat_ended true (seats_hands t))

-- a call that makes these of the seat's hands: what they say after it
pub record Events (e : Entry) (was now : List Played) : Type 0 where
  pub drew : seat_drew now ≡ is_drawing e || seat_drew was
  pub decided : seat_decided now ≡ is_decision e || seat_decided was

-- one that draws, one that ends a hand, and one that is no decision
module _ (e : Entry) (was now : List Played) where
  pub drawing : is_drawing e ≡ true → seat_drew now ≡ true → Events e was now
  drawing draws drew = record { drew = simp (draws, drew); decided = simp (draws, drew, or-true) }

  pub ending : is_drawing e ≡ false → is_decision e ≡ true → seat_drew now ≡ seat_drew was → seat_ended now ≡ true → Events e was now
  ending draws decides same ended = record { drew = simp (draws, same); decided = simp (decides, ended, or-true) }

pub no_event : (e : Entry) (was : List Played) → is_decision e ≡ false → Events e was was
no_event e was none = record { drew = simp (no_drawing e none); decided = simp none }

-- the table with another seat j
module _ (t after : Table) (j : ℕ) (s : Seat) (other : after.seats ≡ set t.seats j s) (within : j < length t.seats) where
  one_more : (test : List Played → Bool) (b : Bool) → test (hands s) ≡ b || test (hands (seat_at t j)) → any_of test (seats_hands after) ≡ b || any_of test (seats_hands t)
  one_more test b e =
      ap (λ (seats : List Seat). any_of test (map hands seats)) other
      ∙ ap (any_of test) (map-set hands t.seats j s)
      ∙ any_set_or test (seats_hands t) j (hands s) (hands missing_seat) b (rw length-map within) (e ∙ ap (λ (hs : List Played). b || test hs) (sym (get_or-map hands t.seats j missing_seat)))

  pub seat_events : (e : Entry) → Events e (hands (seat_at t j)) (hands s) → (any_drew after ≡ is_drawing e || any_drew t) × (any_decided after ≡ is_decision e || any_decided t)
  unfolding any_drew
  seat_events e events = (
    one_more seat_drew (is_drawing e) events.drew,
    any_decided_lem after ∙ one_more seat_decided (is_decision e) events.decided ∙ ap (λ (b : Bool). is_decision e || b) (sym (any_decided_lem t)),
  )

-- where no seat has taken a decision, nobody has
pub nobody-decided : (t : Table) → ((i : ℕ) → i < length t.seats → seat_decided (hands (seat_at t i)) ≡ false) → (any_drew t ≡ false) × (any_decided t ≡ false)
unfolding any_decided
nobody-decided t none =
    let undecided : any_decided t ≡ false =
    any_decided_lem t ∙ not_any seat_decided (seats_hands t) (hands missing_seat) (λ i h. ap seat_decided (get_or-map hands t.seats i missing_seat) ∙ none i (rw length-map at h)) in
    ((or_eq_false (any_drew t) (any_of seat_ended (seats_hands t)) undecided).0, undecided)
