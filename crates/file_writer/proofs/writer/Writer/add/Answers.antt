-- A full writer and a call that no ten bytes hold are refused; else the bytes are laid behind, and a load or the fiftieth call closes the block.
use Rattle.std.proofs.Common.{◌≡◌, ◌∙◌, ap, sym, ap₂, List, ℕ, ◌++◌}
use mathlib.Core.Bool.{true, false}
use Rattle.call.proofs.Refusals.{residual}
use Rattle.history.specs.Entry.{Entry, is_load}
use Rattle.file_spec.specs.File.{writable}
use Rattle.file_spec.specs.Writer.{block_of}
use Rattle.file_writer.specs.Writer.{calls_of}
use Rattle.file_writer.proofs.Adds.{not_load, add_full, add_none, add-load, add_last, add_open}
use Rattle.file_writer.proofs.writer.Writer.add.Goals as goal

pub returns-then-self-ge50-clause-gives : goal.returns-then-self-ge50-clause-gives
returns-then-self-ge50-clause-gives c =
    let w = c.args.self.now in
    add_full w.options w.many (calls_of w) (record { call = c.args.call; order = c.args.order.now }) c.if-self-ge50.true

pub returns-in_err-code-clause-gives : goal.returns-in_err-code-clause-gives
unfolding writable
returns-in_err-code-clause-gives c =
    let w = c.args.self.now in
    let e : Entry = record { call = c.args.call; order = c.args.order.now } in
    let fits : writable w.options e ≡ false = rw c.in_err-code.ensures.0 in
    let same = residual c.from_residual.result {why = c.in_err-code.field-0.0} c.from_residual.ensures.1 in
    rw (same, c.in_err-code.ensures.1) (add_none w.options w.many (calls_of w) e c.if-self-ge50.false fits)

pub returns-then-not-valid_order-clause-gives : goal.returns-then-not-valid_order-clause-gives
unfolding writable
returns-then-not-valid_order-clause-gives c =
    let w = c.args.self.now in
    let e : Entry = record { call = c.args.call; order = c.args.order.now } in
    let fits : writable w.options e ≡ false = rw (c.in_ok-code.ensures.0, c.in-Load.is, ← c.valid_order.ensures, c.if-not-valid_order.true) in
    add_none w.options w.many (calls_of w) e c.if-self-ge50.false fits

pub returns-in-Load-clause-gives : goal.returns-in-Load-clause-gives
unfolding writable
returns-in-Load-clause-gives c =
    let w = c.args.self.now in
    let e : Entry = record { call = c.args.call; order = c.args.order.now } in
    let fits : writable w.options e ≡ true = rw (c.in_ok-code.ensures.0, c.in-Load.is, ← c.valid_order.ensures, c.if-not-valid_order.false) in
    let load : is_load e ≡ true = rw c.in-Load.is in
    let pushed = c.push.ensures in
    let closed = c.close-block.ensures in
    add-load w.options w.many (calls_of w) e _ _ _ _ c.if-self-ge50.false fits load
    (closed.block ∙ ap₂ block_of pushed.many (pushed.calls ∙ ap (λ (l : List ℕ). calls_of w ++ l) c.in_ok-code.ensures.1))
    (c.table_block.ensures ∙ rw (closed.after.0, pushed.options))
    closed.after.2
    closed.after.1

pub returns-then-self-eq50 : goal.returns-then-self-eq50
unfolding writable
returns-then-self-eq50 c =
    let w = c.args.self.now in
    let e : Entry = record { call = c.args.call; order = c.args.order.now } in
    let other : is_load e ≡ false = not_load c.args.call c.in_ok-code.ensures.0 c.in_default.not-Load in
    let fits : writable w.options e ≡ true = rw (c.in_ok-code.ensures.0, other) in
    let pushed = c.push-2.ensures in
    let closed = c.close.ensures in
    record {
      gives = add_last w.options w.many (calls_of w) e _ _ _ c.if-self-ge50.false fits other (sym pushed.many ∙ c.if-self-eq50.true) (closed.block ∙ ap₂ block_of pushed.many (pushed.calls ∙ ap (λ (l : List ℕ). calls_of w ++ l) c.in_ok-code.ensures.1)) closed.after.2 closed.after.1;
      options = closed.after.0 ∙ pushed.options;
    }

pub returns : goal.returns
unfolding writable
returns c =
    let w = c.args.self.now in
    let e : Entry = record { call = c.args.call; order = c.args.order.now } in
    let other : is_load e ≡ false = not_load c.args.call c.in_ok-code.ensures.0 c.in_default.not-Load in
    let fits : writable w.options e ≡ true = rw (c.in_ok-code.ensures.0, other) in
    let pushed = c.push-2.ensures in
    record {
      gives = add_open w.options w.many (calls_of w) e _ _ c.if-self-ge50.false fits other (λ full. c.if-self-eq50.false (pushed.many ∙ full)) pushed.many (pushed.calls ∙ ap (λ (l : List ℕ). calls_of w ++ l) c.in_ok-code.ensures.1);
      options = pushed.options;
    }
