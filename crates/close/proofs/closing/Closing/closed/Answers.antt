-- Each part of the effect is its function's: the tray has enough to pay what goes back, and with the layout it is within the limit.
use mathlib.Core.Path.{◌≡◌, ap}
use native.Mathlib.Omega.{arith}
use Rattle.cards.specs.declared.hand.Hand.{Hand}
use Rattle.table.specs.declared.Table.{Table}
use Rattle.table.specs.Money.{layout}
use Rattle.money.specs.declared.sums.Sums.{Sums}
use Rattle.close_spec.specs.Close.{close_score}
use Rattle.close_spec.proofs.Tray.{tray_pays}
use Rattle.close.proofs.Effect.{close_is}
use Rattle.close.proofs.closing.Closing.closed.Goals as goal

pub overflow_sub-next : goal.overflow_sub-next
overflow_sub-next c =
    let t = c.self.inside.table.now in
    let ends = c.self.invariant.0 in
    let same = c.table-t.ensures.same in
    let lay : c.table_sums-sums.result.laid ≡ layout t = ap (λ (m : Sums). m.laid) (rw same at c.table_sums-sums.ensures) in
    let back = rw (c.self.invariant.1, same) at c.seats_back.ensures in
    omega (arith, tray_pays t ends.sound ends.dealt c.table-t.ensures.nine (close_score t), ap (λ (x : Table). x.tray) same)

pub returns : goal.returns
returns c =
    let t = c.self.inside.table.now in
    let same = c.table-t.ensures.same in
    let seen = ap (λ (v : Table × Hand). v.0) c.self.view_is in
    let lay = ap (λ (m : Sums). m.laid) (rw same at c.table_sums-sums.ensures) in
    rw (same, ← seen)
    (close_is t c.ended_seats-next.result c.self.inside.payment c.table_sums-sums.result.laid c.seats_back.result c.empty_hand-next.result c.shoe-next.result c.self.invariant.1
    (rw same at c.ended_seats-next.ensures) lay (rw same at c.seats_back.ensures) c.empty_hand-next.ensures (rw (← seen) at c.shoe-next.ensures))
