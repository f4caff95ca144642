-- The test of some guests gives their sums, within the bound of so many, where they are sound, and nothing where one is not.
use Rattle.std.specs.Prelude.{◌≡◌, Bool, ℕ, Option, IfSome}
use Rattle.std.specs.Bool.{then_some}
use Rattle.table.specs.declared.Seat.{Seat}
use Rattle.table.specs.Broken.{sound_guest, sound_seat}
use Rattle.money.specs.declared.sums.Sums.{Sums}
use Rattle.money.specs.Sums.{guest_sums, seat_sums}
use Rattle.money.specs.SumsFit.{SumsFit}
use Rattle.broken.specs.declared.seat.Round.{Round}

pub record Surveyed (test : Bool) (m : Sums) (k : ℕ) (v : Option Sums) : Type 0 where
  pub value : v ≡ then_some test m
  pub fits : IfSome v (λ sums. SumsFit k sums)

-- A guest as if alone at the seat of that number, and a seat, tested in its round.
abbrev pub SurveyedGuest : Round → ℕ → Seat → Option Sums → Type 0
SurveyedGuest r i s v = Surveyed (sound_guest r.options r.dealt r.up i s) (guest_sums r.options s) 1 v

abbrev pub SurveyedSeat : Round → ℕ → Seat → Option Sums → Type 0
SurveyedSeat r i s v = Surveyed (sound_seat r.options r.dealt r.up i s) (seat_sums r.options s) 3 v
