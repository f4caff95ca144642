-- `ended_seats` goes seat by seat: before each turn the first i seats are as the end of the round leaves them.
use mathlib.Core.Path.{◌≡◌, ◌∙◌, ap}
use native.Mathlib.Omega.{arith}
use lib.ListN.{length}
use Rattle.close.specs.Aids.Ended.{ended_seat}
use Rattle.table.specs.Table.{with_seat}
use Rattle.close.proofs.seats.Laws.{stored_none, stored_next, stored_all, endable}
use borrow.Author.Rules.{rules}
use Rattle.close.proofs.seats.ended_seats.Goals as goal

pub loop-i-init : goal.loop-i-init
loop-i-init c = stored_none (ended_seat c.args.ending) c.args.t

pub seat-requires : goal.seat-requires
seat-requires c =
    let t = c.args.t in
    let full : length t.seats ≡ 9 = search rules in
    endable t c.args.ending c.requires.0 c.requires.1 full c.loop-i.i (omega arith)

pub offset_bounds-next-i : goal.offset_bounds-next-i
offset_bounds-next-i c = omega arith

pub loop-i-preserved : goal.loop-i-preserved
loop-i-preserved c =
    let t = c.args.t in
    let i = c.loop-i.i in
    let full : length t.seats ≡ 9 = search rules in
    ap (with_seat c.loop-i.next i) c.seat.ensures ∙ stored_next (ended_seat c.args.ending) t c.loop-i.next i (omega arith) c.loop-i.invariant

pub returns : goal.returns
returns c =
    let t = c.args.t in
    let full : length t.seats ≡ 9 = search rules in
    c.loop-i.invariant ∙ stored_all (ended_seat c.args.ending) t c.loop-i.i (omega arith)
