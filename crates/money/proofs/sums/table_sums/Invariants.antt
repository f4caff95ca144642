-- `table_sums` adds seat by seat: before each turn the sums are those of the seats before it, each at most one past the limit for each guest.
use mathlib.Core.Path.{◌≡◌}
use Prim.Native.Nat.{◌*◌}
use lib.ListN.{take}
use Rattle.money.specs.Sums.{sums_over}
use Rattle.money.specs.SumsFit.{SumsFit}
use Rattle.money.proofs.sums.table_sums.Given as goal

abbrev pub invariant-loop-s : goal.invariant-loop-s
invariant-loop-s l = (l.all ≡ sums_over l.fn.t.options (take l.s-index l.fn.t.seats)) × SumsFit (3 * l.s-index) l.all
