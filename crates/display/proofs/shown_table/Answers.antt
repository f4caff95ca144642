-- The sums are of purses cut one past the limit; on a table that is not broken all money is within it, so none is cut.
use mathlib.Core.Path.{◌≡◌, ap, sym, ◌∙◌}
use native.Mathlib.Omega.{arith}
use Rattle.table.specs.Money.{layout, purses}
use Rattle.table.proofs.Facts.{unbroken}
use Rattle.money.specs.declared.sums.Sums.{Sums}
use Rattle.money.proofs.sums.Capping.{within-capped}
use Rattle.display.specs.Table.{table_shown}
use Rattle.display.proofs.shown_table.Goals as goal

pub returns-then-broken : goal.returns-then-broken
unfolding table_shown
returns-then-broken c = rw (sym c.broken.ensures ∙ c.if-broken.true) c.no_table.ensures

pub returns : goal.returns
unfolding table_shown
returns c =
    let t = c.args.t in
    let whole = sym c.broken.ensures ∙ c.if-broken.false in
    let sums = c.table_sums-sums in
    let laid : sums.result.laid ≡ layout t = ap (λ (m : Sums). m.laid) sums.ensures in
    let own : sums.result.purses ≡ purses t = ap (λ (m : Sums). m.purses) sums.ensures ∙ within-capped t.seats (omega (arith, (unbroken t whole).money)) in
    rw (whole, laid, own, c.cards_left.ensures, c.shown_bank.ensures)
