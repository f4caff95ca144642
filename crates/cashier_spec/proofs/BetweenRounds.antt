-- Between rounds no seat has a hand.
use mathlib.Core.Path.{◌≡◌, sym, ◌∙◌}
use mathlib.Core.Bool.{false, true≢false}
use Prim.Native.Nat.{ℕ, ◌≤◌, ◌<◌}
use native.Mathlib.Decide.{dec_le}
use native.Mathlib.Omega.{arith}
use Rattle.table.specs.declared.Table.{Table}
use Rattle.table.specs.Table.{seat_at, is_dealt}
use Rattle.table.specs.Aids.Sound.{Sound}

pub no_hand : (t : Table) (i : ℕ) → i < 9 → Sound t → is_dealt t ≡ false → (seat_at t i).hands.many ≡ 0
no_hand t i nine sound between = go (dec_le (seat_at t i).hands.many 0)
  where
    go : Dec ((seat_at t i).hands.many ≤ 0) → (seat_at t i).hands.many ≡ 0
    go (yes none) = omega arith
    go (no some) = absurd (true≢false (sym ((sound.seats i nine).playing (omega arith)).in_round_lem ∙ between))
