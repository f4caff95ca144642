-- An unknown kind is answered here; every other is the engine's step of its call.
use mathlib.Core.Path.{sym, ◌∙◌}
use Rattle.discgauze.proofs.Unknown.{unknown_step, known_step}
use Rattle.discgauze.proofs.calls.discgauze_stepped.Goals as goal

pub returns-then-unknown_kind : goal.returns-then-unknown_kind
returns-then-unknown_kind c =
    let a = c.args in
    unknown_step a.table a.kind a.seat a.position a.amount a.order.now a.names.now a.nets.now c.plain_reply.result (sym c.unknown_kind.ensures ∙ c.if-unknown_kind.true) c.plain_reply.ensures

pub returns : goal.returns
returns c =
    let a = c.args in
    known_step a.table a.kind a.seat a.position a.amount a.order.now a.names.now a.nets.now c.call_by.result _ (sym c.unknown_kind.ensures ∙ c.if-unknown_kind.false) c.call_by.ensures c.step.ensures
