-- A guest of any seat number and position, as the history asks for it: one that the table has, or one with no bets.
use mathlib.Core.Path.{◌≡◌, ◌∙◌, ap}
use Prim.Native.Nat.{ℕ, ◌≤◌, ◌<◌}
use native.Mathlib.Decide.{dec_le}
use native.Mathlib.Omega.{arith}
use lib.ListN.{get_or-eq_default}
use Rattle.table.specs.declared.Seat.{Seat}
use Rattle.table.specs.declared.Table.{Table}
use Rattle.table.specs.Seat.{missing_seat, guest_at}
use Rattle.table.specs.Table.{seat_at, guest_of}
use Rattle.table.specs.Shape.{Shaped}
use Rattle.table.specs.Aids.Sound.{NoBets}
use Rattle.table.proofs.Guests.{guest_beyond, guest_missing}
use Rattle.table.proofs.Facts.{no_money}

pub any_guest_lem : (t : Table) → Shaped t → (P : Seat → Type 0) (i p : ℕ) → (i < 9 → p < 3 → P (guest_of t i p)) → ((s : Seat) → NoBets s → P s) → P (guest_of t i p)
any_guest_lem t shaped P i p here none = go (dec_le 9 i) (dec_le 3 p)
  where
    go : Dec (9 ≤ i) → Dec (3 ≤ p) → P (guest_of t i p)
    go (yes h) l =
        let missing : seat_at t i ≡ missing_seat = get_or-eq_default t.seats missing_seat {n = i} (omega (arith, shaped.nine_seats_lem)) in
        none (guest_of t i p) (no_money (guest_of t i p) (ap (λ (s : Seat). (guest_at s p).money) missing ∙ guest_missing p)).1
    go (no h) (yes l) =
        none (guest_of t i p) (no_money (guest_of t i p) (guest_beyond (seat_at t i) p (omega (arith, (shaped.seats i (omega arith)).two_others)))).1
    go (no h) (no l) = here (omega arith) (omega arith)
