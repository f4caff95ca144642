-- Request 2.7: what a display reads of the bank before close is the up card alone. Two tables that differ only in cards that nobody sees show the same, in each of the four
-- values that a display reads.
use Rattle.std.specs.Prelude.{◌≡◌, ℕ}
use Rattle.table.specs.declared.Table.{Table}
use Rattle.table.specs.InSight.{InSight}
use Rattle.table.specs.Broken.{broken}
use Rattle.display.specs.Table.{table_shown, turn_shown}
use Rattle.display.specs.Seat.{seat_shown}
use Rattle.display.specs.Hand.{hand_shown}

pub record ShowsSame (t u : Table) : Type 0 where
  pub table : table_shown t ≡ table_shown u
  pub turn : turn_shown t ≡ turn_shown u
  pub seat : (i q : ℕ) → seat_shown t i q ≡ seat_shown u i q
  pub hand : (i q p : ℕ) → hand_shown t i q p ≡ hand_shown u i q p

-- Both tables are broken, or neither is.
abbrev pub HiddenUnshown : Table → Table → Type 0
HiddenUnshown t u = InSight t u → broken t ≡ broken u → ShowsSame t u
