-- `pass` goes seat by seat: before each turn the first i seats have had theirs, and n is behind the cards that they took.
use mathlib.Core.Path.{◌≡◌, sym, ◌∙◌, ap, ap₂}
use mathlib.Core.List.{List}
use Prim.Native.Nat.{◌+◌}
use native.Mathlib.Omega.{arith}
use lib.ListN.{length, get_or}
use Rattle.lists.specs.Sum.{sum_of}
use Rattle.table.specs.declared.Seat.{Seat}
use Rattle.table.specs.declared.Table.{Table}
use Rattle.table.specs.Table.{make_table, seat_at, with_seat}
use Rattle.deal.specs.Aids.Passed.{give, serve}
use Rattle.deal.proofs.pass.Next.{one-most, staked-next, serve-next, serve-all}
use borrow.Author.Rules.{rules}
use Rattle.deal.proofs.pass.pass.Goals as goal

-- the table with those seats
abbrev with_seats : Table → List Seat → Table
with_seats t seats = make_table t.options t.tray seats t.bank t.shoe

pub loop-i-init : goal.loop-i-init
unfolding sum_of
loop-i-init c = search rules

pub slice_bounds-card_ahead-end : goal.slice_bounds-card_ahead-end
slice_bounds-card_ahead-end c =
    let full : length c.args.t.shoe.order ≡ 416 = search rules in
    sym full

pub offset_bounds-next-i : goal.offset_bounds-next-i
offset_bounds-next-i c = omega arith

pub overflow_add-n : goal.overflow_add-n
overflow_add-n c =
    let full : length c.args.t.seats ≡ 9 = search rules in
    omega (arith, one-most (seat_at c.args.t c.loop-i.i))

pub loop-i-preserved : goal.loop-i-preserved
loop-i-preserved c =
    let a = c.args in
    let t = a.t in
    let i = c.loop-i.i in
    let n = c.loop-i.n in
    let full : length t.seats ≡ 9 = search rules in
    let x : c.served.result ≡ serve a.first (seat_at t i) (get_or t.shoe.order (t.shoe.drawn + n) 0)
    = c.served.ensures ∙ ap (serve a.first (seat_at t i)) c.card_ahead.ensures in (
      ap₂ (λ (u : Table) (s : Seat). with_seat u i s) c.loop-i.invariant.0 x
          ∙ ap (with_seats t) (serve-next (give a.first) t.shoe.order (t.shoe.drawn + a.at) t.seats i (t.shoe.drawn + n) (omega arith) (omega arith)),
      omega (arith, staked-next t.seats i (omega arith)),
      omega (arith, one-most (seat_at t i)),
    )

pub returns : goal.returns
returns c =
    let a = c.args in
    let t = a.t in
    let full : length t.seats ≡ 9 = search rules in
    c.loop-i.invariant.0 ∙ ap (with_seats t) (serve-all (give a.first) t.shoe.order (t.shoe.drawn + a.at) t.seats c.loop-i.i (omega arith))
