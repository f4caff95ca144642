-- A seat without a hand, whose seated guest has no stake of any kind.
use Rattle.std.specs.Prelude.{◌≡◌}
use Rattle.table.specs.declared.Seat.{Seat}
use Rattle.table.specs.Aids.Sound.{NoBets}

pub record AtRest (s : Seat) : Type 0 where
  pub no_hand : s.hands.many ≡ 0
  pub bets : NoBets s
