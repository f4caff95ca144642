-- A seat at the end of a round, however it ends: the definitions of void and close under one name, and what a guest's purse asks.
use Rattle.std.specs.Prelude.{ℕ, ◌+◌, ◌≤◌, ◌<◌}
use Rattle.options.specs.declared.Options.{Options}
use Rattle.table.specs.declared.Seat.{Seat}
use Rattle.table.specs.Seat.{guest_at, purse, laid, prizes}
use Rattle.table.specs.Money.{most_money}
use Rattle.close_spec.specs.Close.{paid_purse, paid_seat}
use Rattle.close_spec.specs.Void.{void_purse, void_seat}
use Rattle.close.specs.declared.seats.Ending.{Ending}
use Rattle.close.specs.declared.seats.Ending.TheVariants.{Void, Paid}

-- A guest's purse then.
abbrev pub ended_purse : Ending → Seat → ℕ
ended_purse (Void o) s = void_purse o s
ended_purse (Paid p) s = paid_purse p.options p.bank s

abbrev pub ended_seat : Ending → Seat → Seat
ended_seat (Void o) s = void_seat o s
ended_seat (Paid p) s = paid_seat p.options p.bank s

-- The options of the table where a round so ends.
abbrev pub options_of : Ending → Options
options_of (Void o) = o
options_of (Paid p) = p.options

-- What the guest laid fits into the purse, and the prizes can be taken out again.
pub record Endable (ending : Ending) (s : Seat) : Type 0 where
  pub within : prizes (options_of ending) s ≤ purse s + laid s
  pub limit : purse s + laid s ≤ most_money

-- So of each guest of a seat.
abbrev pub AllEndable : Ending → Seat → Type 0
AllEndable ending s = (p : ℕ) → p < 3 → Endable ending (guest_at s p)
