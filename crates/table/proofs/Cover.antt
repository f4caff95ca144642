-- In a dealt round the tray can pay a prize to each guest of a seat: what it must hold for a guest is more, by one prize at least, than all prizes of the seat's hands.
use mathlib.Core.Path.{◌≡◌}
use mathlib.Core.Bool.{true}
use Prim.Native.Nat.{ℕ, ◌+◌, ◌≤◌, ◌<◌}
use native.Mathlib.Omega.{arith}
use lib.ListN.{length}
use Rattle.lists.specs.Sum.{sum_of}
use Rattle.lists.proofs.Sums.{sum-at-most, sum-plus, sum_has}
use Rattle.payment.specs.Prize.{most_prize}
use Rattle.payment.proofs.Bounds.{seat-prizes}
use Rattle.table.specs.declared.Seat.{Seat}
use Rattle.table.specs.declared.Table.{Table}
use Rattle.table.specs.Seat.{missing_seat, over_guests, stake, hands, prizes, seat_cover}
use Rattle.table.specs.Table.{seat_at, guest_of, is_dealt, up}
use Rattle.table.specs.Money.{all_cover}
use Rattle.table.specs.Aids.Sound.{Sound}
use Rattle.table.proofs.Facts.{sound_options, few_hands}
use Rattle.table.proofs.SeatHands.{guest-prizes}

module _ (t : Table) (full : length t.seats ≡ 9) (sound : Sound t) where
  -- no seat has more hands than the option gives, so each guest's prizes are far below its cover
  few : (i : ℕ) → i < 9 → length (hands (seat_at t i)) ≤ 4
  few i h = few_hands t.options (is_dealt t) (up t) i (seat_at t i) (sound_options t sound).hands_most (sound.seats i h)

  won : (i p : ℕ) → i < 9 → prizes t.options (guest_of t i p) + most_prize (stake (guest_of t i p)) ≤ seat_cover (guest_of t i p)
  won i p h =
      omega (arith, guest-prizes t.options (seat_at t i) p, seat-prizes t.options (stake (guest_of t i p)) (hands (seat_at t i)) (few i h))

  -- one prize for each guest of a seat
  abbrev most : Seat → ℕ
  most s = over_guests (λ g. most_prize (stake g)) s

  room : sum_of (λ s. over_guests (prizes t.options) s + most s) t.seats ≤ all_cover t
  room =
      sum-at-most (λ s. over_guests (prizes t.options) s + most s) (over_guests seat_cover) t.seats missing_seat
      (λ i h. omega (arith, won i 0 (omega arith), won i 1 (omega arith), won i 2 (omega arith)))

  pub tray_covers : is_dealt t ≡ true → (j : ℕ) → j < 9 → most (seat_at t j) ≤ t.tray
  tray_covers dealt j nine =
      omega (
        arith,
        room,
        sound.cover dealt,
        sum-plus (over_guests (prizes t.options)) most t.seats,
        sum_has most t.seats j missing_seat (omega arith),
      )
