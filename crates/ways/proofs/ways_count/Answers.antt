-- A number stands alone; else the table is not broken, and the count is that of its lists.
use mathlib.Core.Path.{sym, ◌∙◌, ap₂}
use lib.ListN.{length}
use Rattle.call.specs.declared.At.{At}
use Rattle.call.proofs.Refusals.{refusal_some}
use Rattle.table.specs.declared.Table.{Table}
use Rattle.ways.specs.Ways.{ways_from}
use Rattle.ways.proofs.Given.{count-refused, count-given, number-unbroken}
use Rattle.ways.proofs.ways_count.Goals as goal

pub returns-in-Err : goal.returns-in-Err
returns-in-Err c =
    count-refused c.args.t c.number.result (c.number.ensures ∙ c.in-Err.ensures) (λ e. refusal_some c.in-Err.why (sym c.number.ensures ∙ e))

pub new-requires : goal.new-requires
new-requires c = number-unbroken c.args.t (sym c.in-Ok.ensures)

pub returns-in-Ok : goal.returns-in-Ok
returns-in-Ok c =
    count-given c.args.t c.count_from.result (sym c.in-Ok.ensures) (c.count_from.ensures ∙ ap₂ (λ (at : At) (u : Table). length (ways_from 8 at u)) c.player.ensures c.new.ensures)
