-- What an accepted draw or double gives its effect: the hand is the one whose turn it is, each purse has what is laid, the tray the prizes, and the shoe a card.
use Rattle.std.specs.Prelude.{ℕ, ◌+◌, ◌*◌, ◌≤◌, ◌<◌}
use Rattle.payment.specs.Prize.{most_prize}
use Rattle.table.specs.declared.Money.{Money}
use Rattle.table.specs.declared.Seat.{Seat}
use Rattle.table.specs.declared.Table.{Table}
use Rattle.table.specs.Seat.{guest_at, over_guests, stake}
use Rattle.table.specs.Table.{seat_at}
use Rattle.table.specs.Money.{most_money}
use Rattle.decisions.specs.declared.turn.HandInTurn.{HandInTurn}
use Rattle.decisions.specs.InTurn.{InTurn}

-- A guest's purse has so many stakes, and room for a prize.
pub record Affords (times : ℕ) (m : Money) : Type 0 where
  pub few : times ≤ 1
  pub purse_has : times * m.stake ≤ m.purse
  pub purse_fits : m.purse + most_prize m.stake ≤ most_money

abbrev pub AllAfford : ℕ → Seat → Type 0
AllAfford times s = (p : ℕ) → p < 3 → Affords times (guest_at s p).money

-- One prize for each guest of the seat.
abbrev pub one_prize_each : Seat → ℕ
one_prize_each s = over_guests (λ g. most_prize (stake g)) s

pub record Drawable (t : Table) (h : HandInTurn) (times : ℕ) : Type 0 where
  pub turn : InTurn t h
  pub guests : AllAfford times (seat_at t h.guest.seat)
  pub tray_has : one_prize_each (seat_at t h.guest.seat) ≤ t.tray
  pub tray_fits : t.tray ≤ most_money
  pub card_left : t.shoe.drawn + 1 ≤ 416
