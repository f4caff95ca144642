-- A refused deal shows no score; an accepted one those of the table that it leaves.
use mathlib.Core.Path.{refl, ap}
use Rattle.std.specs.Prelude.{Ok, Err}
use Rattle.call.proofs.Refusals.{refusal_some}
use Rattle.engine.proofs.ShownDeal.{elsewhere, dealt-none, dealt_some}
use Rattle.answer.specs.declared.reply.Answer.{Answer}
use Rattle.answer.specs.Reply.{reply_of}
use Rattle.engine.proofs.replies.dealt.Goals as goal

pub returns-in-Ok : goal.returns-in-Ok
returns-in-Ok c =
    let both = dealt_some _ _ _ (elsewhere _ _ c.args.t.now c.args.next.now (Ok c.in-Ok.table) c.in-Ok.ensures) refl (ap (λ (a : Answer). reply_of a c.in-Ok.table) c.scored_answer.ensures) c.deal_scores.ensures in
    record { scores = both.0; made = both.1 }

pub returns-in-Err : goal.returns-in-Err
returns-in-Err c =
    let both = dealt-none _ _ _ (elsewhere _ _ c.args.t.now c.args.next.now (Err c.in-Err.why) c.in-Err.ensures) (refusal_some _) (rw (c.scored_answer-in-Err.ensures, c.number.ensures, c.no_scores.ensures)) in
    record { scores = both.0; made = both.1 }
