-- An unknown kind is answered here; every other is the engine's step of its call.
use mathlib.Core.Path.{sym, ap, ◌∙◌}
use Rattle.answer.specs.declared.reply.Answer.{Answer}
use Rattle.answer.specs.Reply.{reply_of}
use Rattle.discgauze.proofs.Unknown.{unknown_step, known_step}
use Rattle.discgauze.proofs.in_place.stepped.Goals as goal

pub returns-then-unknown_kind : goal.returns-then-unknown_kind
returns-then-unknown_kind c =
    let a = c.args in
    unknown_step a.table.now a.kind a.seat a.position a.amount a.order.now a.names.now a.nets.now _ (sym c.unknown_kind.ensures ∙ c.if-unknown_kind.true)
    (rw (c.scored_answer.ensures, c.no_scores.ensures))

pub returns : goal.returns
returns c =
    let a = c.args in
    known_step a.table.now a.kind a.seat a.position a.amount a.order.now a.names.now a.nets.now c.call_by-call.result _ (sym c.unknown_kind.ensures ∙ c.if-unknown_kind.false) c.call_by-call.ensures c.step_in_place.ensures
