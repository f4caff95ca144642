-- A call of the library: kind as a number, seat, position, amount, lent order, lent lines. An unknown kind is refused and changes nothing.
use Rattle.std.specs.Prelude.{Bool, cond, ◌||◌, List, ℕ, ltb, eqb}
use Rattle.call.specs.declared.Call.{Call}
use Rattle.call.specs.Answer.{empty_shown}
use Rattle.table.specs.declared.Table.{Table}
use Rattle.answer.specs.Reply.{ReplyView, make_reply_view}
use Rattle.engine.specs.Step.{step}
use Rattle.file_spec.specs.CallBlock.{call_of}

-- The kinds are the session file's, 1 to 21.
abbrev pub unknown_kind : ℕ → Bool
unknown_kind kind = eqb kind 0 || ltb 21 kind

abbrev pub call_by : ℕ → ℕ → ℕ → ℕ → Call
call_by kind seat position amount = call_of kind (record { seat = seat; position = position }) amount

-- The engine's step of that call; an unknown kind is answered by 255, with nothing shown and the table as it was.
unfoldable pub step_by : Table → ℕ → ℕ → ℕ → ℕ → List ℕ → ReplyView
step_by t kind seat position amount order = cond (unknown_kind kind) (make_reply_view 255 empty_shown t) (step t (call_by kind seat position amount) order)
