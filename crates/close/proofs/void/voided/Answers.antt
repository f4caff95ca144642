-- Each part of the effect is its function's. The tray with the prizes is within the limit.
use mathlib.Core.Path.{◌≡◌, refl, ap}
use native.Mathlib.Omega.{arith}
use lib.ListN.{length}
use Rattle.table.specs.Money.{all_prizes}
use Rattle.money.specs.declared.sums.Sums.{Sums}
use Rattle.close.proofs.void.Back.{tray_back, drawn-fits, void_is}
use borrow.Author.Rules.{rules}
use Rattle.close.proofs.void.voided.Goals as goal

pub ended_seats-next-requires : goal.ended_seats-next-requires
ended_seats-next-requires c = (c.requires, refl)

pub overflow_add-next : goal.overflow_add-next
overflow_add-next c =
    let summed = c in
    let start = summed in
    let t = start.args.t in
    let full : length t.seats ≡ 9 = search rules in
    let won : summed.table_sums-sums.result.prizes ≡ all_prizes t = ap (λ (m : Sums). m.prizes) summed.table_sums-sums.ensures in
    omega (arith, tray_back t start.requires full)

pub discard_drawn-next-requires : goal.discard_drawn-next-requires
discard_drawn-next-requires c =
    let start = c in
    drawn-fits start.args.t start.requires

pub returns : goal.returns
returns c =
    let cleared = c in
    let summed = cleared in
    let t = summed.args.t in
    void_is t summed.ended_seats-next.result summed.table_sums-sums.result.prizes cleared.empty_hand-next.result c.discard_drawn-next.result
    summed.ended_seats-next.ensures (ap (λ (m : Sums). m.prizes) summed.table_sums-sums.ensures) cleared.empty_hand-next.ensures c.discard_drawn-next.ensures
