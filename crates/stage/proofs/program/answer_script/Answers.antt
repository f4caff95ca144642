-- The closure took the rows of what was read, and only its success at each led to the flush.
use Rattle.std.proofs.Common.{◌≡◌, ◌==◌, List, [], ◌++◌, ℕ, take, Some, None, rules, tests}
use Rattle.std.specs.Prelude.{Option, IfSome}
use Rattle.std.specs.Option.{option_map}
use Rattle.std.proofs.lemmas.Result.{on_ok_weaker}
use Rattle.std.proofs.lemmas.Iterator.{items_from_drains}
use Rattle.std.proofs.lemmas.Iterator.Splits.{YieldsList-from_slice_split}
use Rattle.stage.proofs.program.answer_script.Goals as goal

-- of a script whose letters are known the text is the front
as_read : (known : Option (List ℕ)) (n : ℕ) (text : List ℕ) → IfSome (option_map (take n) known) (λ letters. text ≡ [] ++ letters) → IfSome known (λ letters. text ≡ take n letters)
as_read (Some letters) n text h = h
as_read None n text h = h

pub returns : goal.returns
returns g c =
    let (xs, last, (end, (at, came, over)), taken) = c.in_ok-each_row.ensures in
    let lines = items_from_drains xs (at, came, λ _. (end, over))
    (YieldsList-from_slice_split _ (λ letter. letter == 10) c.deref.result.now c.split-lines.ensures.rest c.split-lines.ensures.done c.split-lines.ensures.closure (λ x r q k. search (rules, tests))) in
    on_ok_weaker c.flush.result (λ _. (c.in_ok-out.out, c.deref.result.now, (c.each_row.new.out, last), rw c.deref.ensures.value (as_read _ 65536 _ (rw (c.take.ensures.limit, c.take.ensures.inner, c.new-text.ensures.items) at c.in_ok-read_to_end.ensures.bytes)), rw (← lines) taken)) c.flush.ensures.ok
