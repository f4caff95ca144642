-- `all_lines` goes seat by seat: before each turn the first seats have their lines, at most 27 each.
use Prim.Native.Nat.{◌*◌, ◌≤◌}
use lib.ListN.{length, take}
use Rattle.close_spec.specs.PayLines.{all_lines}
use Rattle.close.specs.Aids.LinesAt.{LinesPut}
use Rattle.close.proofs.paying.Payment.all_lines.Given as goal

abbrev pub invariant-loop-i : goal.invariant-loop-i
invariant-loop-i l =
    (length (all_lines l.fn.self.options l.fn.self.bank 0 (take l.i l.fn.seats)) ≤ 27 * l.i)
    × LinesPut l.initial.lines (all_lines l.fn.self.options l.fn.self.bank 0 (take l.i l.fn.seats)) l.lines
