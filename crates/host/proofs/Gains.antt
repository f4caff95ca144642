-- What a close pays to a guest of the nine seats: the purse gains what goes back, on any table that closes, so that what came back is small and nothing wraps.
use mathlib.Core.Path.{◌≡◌, ◌∙◌, ap}
use mathlib.Core.List.{map}
use Prim.Native.Nat.{ℕ, ◌+◌, ◌<◌}
use native.Mathlib.Omega.{arith}
use lib.ListN.{get_or, length-map, get_or-map}
use Rattle.lists.proofs.Places.{get_d_any}
use Rattle.table.specs.declared.Seat.{Seat}
use Rattle.table.specs.declared.Table.{Table}
use Rattle.table.specs.Seat.{missing_seat, guest_at, purse}
use Rattle.table.specs.Table.{seat_at, guest_of}
use Rattle.table.specs.Shape.{Shaped}
use Rattle.table.proofs.RoundEnd.{cleared-purse}
use Rattle.close_spec.specs.Close.{close_score, guest_back, paid_purse, paid_seat, close_effect}

pub purse_gained : (t : Table) → Shaped t → (i p : ℕ) → i < 9 → p < 3
    → purse (guest_of (close_effect t) i p) ≡ purse (guest_of t i p) + guest_back t.options (close_score t) (guest_of t i p)
unfolding close_effect
purse_gained t shaped i p hi hp =
    let paid : Seat → Seat = paid_seat t.options (close_score t) in
    let there : get_or (map paid t.seats) i missing_seat ≡ paid (seat_at t i) =
    get_d_any (map paid t.seats) i missing_seat (paid missing_seat) (omega (arith, length-map t.seats paid, shaped.nine_seats_lem)) ∙ get_or-map paid t.seats i missing_seat in
    ap (λ (s : Seat). purse (guest_at s p)) there ∙ cleared-purse (paid_purse t.options (close_score t)) (seat_at t i) p (λ far. absurd (omega arith))
