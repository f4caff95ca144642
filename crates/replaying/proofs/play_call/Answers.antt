-- The step of the call with the part of the file that is its order; a step keeps a whole table whole.
use mathlib.Core.Path.{◌≡◌, sym, ap, ◌∙◌, subst}
use mathlib.Core.List.{List}
use Prim.Native.Nat.{ℕ}
use Rattle.answer.specs.Reply.{given_of, given_by}
use Rattle.table.specs.Shape.{Shaped}
use Rattle.books.specs.Laws.{Whole}
use Rattle.engine.specs.Step.{step}
use Rattle.session_file.specs.Reader.{order_of}
use Rattle.replaying.proofs.Plays.{next-whole, left_next}
use Rattle.replaying.proofs.play_call.Goals.{After-step_whole-reply}
use Rattle.replaying.proofs.play_call.Goals as goal

stepped : (c : After-step_whole-reply) → given_of c.step_whole-reply.result c.step_whole-reply.new.names c.step_whole-reply.new.nets ≡ given_by (step c.args.t.now c.args.h.call (order_of c.args.file.now c.args.h)) c.args.names.now c.args.nets.now
stepped c = c.step_whole-reply.ensures ∙ ap (λ (l : List ℕ). given_by (step c.args.t.now c.args.h.call l) c.args.names.now c.args.nets.now) c.part.ensures

whole : (c : After-step_whole-reply) → Whole c.step_whole-reply.result.table
whole c =
    let t = c.args.t.now in
    let order = order_of c.args.file.now c.args.h in
    let shaped = subst Shaped c.table.ensures.same c.table_shape.ensures in
    let left = left_next t c.args.h.call order c.step_whole-reply.result.answer c.step_whole-reply.result.table _ _ _ _ (stepped c) in
    subst Whole (sym left) (next-whole t c.args.h.call order (record { shaped = shaped; sound = c.table.ensures.whole }))

pub new-requires : goal.new-requires
new-requires c = (whole (goal.at.new-requires c).After-step_whole-reply).sound

pub returns-clause-whole : goal.returns-clause-whole
returns-clause-whole c = subst Whole (sym c.new.ensures) (whole (goal.at.returns-clause-whole c).After-step_whole-reply)
