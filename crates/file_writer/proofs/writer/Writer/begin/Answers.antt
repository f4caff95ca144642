-- What no file can begin with is refused.
use Rattle.std.proofs.Common.{◌≡◌, refl, []}
use mathlib.Core.Bool.{true, false, ◌&&◌, and-false}
use Rattle.options.specs.Ranges.{in_range}
use Rattle.table.specs.Shoe.{valid_order}
use Rattle.file_writer.proofs.Adds.{begin-none, begin_some}
use Rattle.file_writer.proofs.writer.Writer.begin.Goals.{then-not-in_range-via-then-not-in_range, then-not-in_range-via-else-not-in_range+then-not-valid_order}
use Rattle.file_writer.proofs.writer.Writer.begin.Goals as goal

pub returns-then-not-in_range-clause-gives : goal.returns-then-not-in_range-clause-gives
returns-then-not-in_range-clause-gives c =
    let o = c.args.options in
    let order = c.args.order.now in
    let wrong : in_range o && valid_order o.decks order ≡ false
    = elim c.then-not-in_range.branch [
      | then-not-in_range-via-then-not-in_range w ↦ rw (← c.in_range.ensures, w.if-not-in_range.true)
      | then-not-in_range-via-else-not-in_range+then-not-valid_order w ↦ rw (← w.valid_order.ensures, w.if-not-valid_order.true) (and-false (in_range o))
    ] in
    begin-none o order 0 [] wrong refl refl

pub returns-clause-gives : goal.returns-clause-gives
returns-clause-gives c =
    let right : in_range c.args.options && valid_order c.args.options.decks c.args.order.now ≡ true
    = rw (← c.in_range.ensures, ← c.valid_order.ensures, c.if-not-in_range.false, c.if-not-valid_order.false) in
    begin_some c.args.options c.args.order.now c.table_block.result _ _ right c.table_block.ensures c.new.ensures.2 c.new.ensures.1
