-- Seat by seat: before each turn the rows are those with the wanted hands of the first i seats, at most four for each.
use mathlib.Core.Path.{◌≡◌, refl, ◌∙◌, ap}
use Prim.Native.Nat.{ℕ}
use native.Mathlib.Omega.{arith}
use lib.ListN.{length}
use lib.Seq.{take_all}
use mathlib.Core.List.{List}
use Rattle.table.specs.declared.Seat.{Seat}
use Rattle.dealer_screen.specs.Rows.{rows_from}
use Rattle.dealer_screen.specs.Aids.Held.{with_rows}
use Rattle.dealer_screen.proofs.Gather.{next-seat}
use borrow.Author.Rules.{rules}
use Rattle.dealer_screen.proofs.rows.table_rows.Goals as goal

pub loop-i-init : goal.loop-i-init
unfolding with_rows rows_from
loop-i-init c = (refl, omega arith)

pub loop-i-preserved : goal.loop-i-preserved
loop-i-preserved c =
    let a = c.args in
    let card = c.up-card.result in
    let full : length a.t.seats ≡ 9 = search rules in (
      c.seat_rows-next.ensures.same ∙ next-seat a.waiting a.t.options card a.t.seats a.rows c.loop-i.i c.loop-i.next (omega arith) c.loop-i.invariant.0,
      omega (arith, c.seat_rows-next.ensures.few),
    )

pub returns : goal.returns
returns c =
    let a = c.args in
    let full : length a.t.seats ≡ 9 = search rules in record {
      same = c.loop-i.invariant.0
          ∙ ap (λ (ss : List Seat). with_rows a.rows (rows_from a.waiting a.t.options c.up-card.result 0 ss)) (take_all c.loop-i.i a.t.seats (omega arith))
          ∙ ap (λ (card : ℕ). with_rows a.rows (rows_from a.waiting a.t.options card 0 a.t.seats)) c.up-card.ensures;
      few = omega arith;
    }
