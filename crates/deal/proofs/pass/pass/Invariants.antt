-- `pass` goes seat by seat: before each turn the first i seats have had theirs, and n is behind the cards that they took.
use mathlib.Core.Path.{◌≡◌}
use mathlib.Core.List.{List}
use Prim.Native.Nat.{◌+◌, ◌≤◌}
use lib.ListN.{take}
use Rattle.table.specs.declared.Seat.{Seat}
use Rattle.table.specs.declared.Table.{Table}
use Rattle.table.specs.Table.{make_table}
use Rattle.deal_spec.specs.Deal.{staked_seats}
use Rattle.deal.specs.Aids.Passed.{give}
use Rattle.deal.proofs.pass.Next.{before}
use Rattle.deal.proofs.pass.pass.Given as goal

-- the table with those seats
abbrev with_seats : Table → List Seat → Table
with_seats t seats = make_table t.options t.tray seats t.bank t.shoe

abbrev pub invariant-loop-i : goal.invariant-loop-i
invariant-loop-i l =
    let t = l.fn.t in
    (l.next ≡ with_seats t (before (give l.fn.first) t.shoe.order (t.shoe.drawn + l.fn.at) t.seats l.i))
    × (l.n ≡ l.fn.at + staked_seats (take l.i t.seats))
    × (l.n ≤ l.fn.at + l.i)
