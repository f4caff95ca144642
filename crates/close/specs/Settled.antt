-- What a close gives back, as a reply: its bank's cards, lines, scores and table, or why it is refused, and then the table t is as it was.
use Rattle.std.specs.Prelude.{Result, Ok, Err}
use Rattle.call.specs.declared.refusal.Refusal.{Refusal}
use Rattle.call.specs.Refusal.{number_of}
use Rattle.table.specs.declared.Table.{Table}
use Rattle.answer.specs.declared.reply.Reply.{Reply}
use Rattle.answer.specs.Outcome.{make_outcome}
use Rattle.answer.specs.Reply.{make_reply, plain_reply}
use Rattle.close.specs.declared.Settled.{Settled}

abbrev pub closed_reply : Table → Result Settled Refusal → Reply
closed_reply t (Ok s) = make_reply 0 s.bank s.lines s.scores s.table
closed_reply t (Err why) = plain_reply (make_outcome (number_of why) t)
