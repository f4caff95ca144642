-- A number stands alone; else the list at that place.
use mathlib.Core.Path.{◌∙◌, ap}
use Rattle.call.proofs.Refusals.{refusal_some}
use Rattle.ways.specs.Number.{no_way}
use Rattle.ways.proofs.Given.{way-refused}
use Rattle.ways.proofs.way_at.Goals as goal

pub returns-in-Err : goal.returns-in-Err
returns-in-Err c =
    let same = c.in-Err.ensures.number in
    c.no_way.ensures ∙ ap no_way (c.number.ensures ∙ same) ∙ way-refused c.args.t c.args.place (λ e. refusal_some c.in-Err.why (same ∙ e))
