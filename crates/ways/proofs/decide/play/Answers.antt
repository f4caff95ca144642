-- The engine's step gives a number, which a refusal has or which is 0, and the table after the call; an accepted call leaves a whole table whole.
use mathlib.Core.Path.{◌≡◌, sym, ◌∙◌, ap, subst}
use mathlib.Core.List.{[]}
use Rattle.call.proofs.Refusals.{refusal_some}
use Rattle.table.specs.Shape.{Shaped}
use Rattle.books.specs.Laws.{Whole}
use Rattle.engine.specs.Step.{number, next}
use Rattle.ways.proofs.FewNumbers.{none_refused}
use Rattle.ways.proofs.Turns.{next-same, next-whole}
use Rattle.ways.proofs.decide.play.Goals.{After-step_whole-r, In_default}
use Rattle.ways.proofs.decide.play.Goals as goal

told : (c : After-step_whole-r) → c.step_whole-r.result.answer.number ≡ number c.args.t.now c.args.c []
unfolding number
told c = ap (λ g. g.number) c.step_whole-r.ensures

-- no refusal has the number: so the call is accepted
accepted : (c : In_default) → number c.args.t.now c.args.c [] ≡ 0
unfolding number
accepted c = none_refused c.args.t.now c.args.c [] c.step_whole-r.result.answer.number (ap (λ g. g.number) c.step_whole-r.ensures) c.in_default.ensures.1

after : (c : In_default) → c.step_whole-r.result.table ≡ next c.args.t.now c.args.c []
unfolding next
after c = ap (λ g. g.table) c.step_whole-r.ensures

pub returns-in-Ok-clause-number : goal.returns-in-Ok-clause-number
returns-in-Ok-clause-number c = c.in-Ok.ensures ∙ told (goal.at.returns-in-Ok-clause-number c).After-step_whole-r

pub returns-in-Ok-clause-after : goal.returns-in-Ok-clause-after
returns-in-Ok-clause-after c =
    let same = told (goal.at.returns-in-Ok-clause-after c).After-step_whole-r in
    sym (next-same c.args.t.now c.args.c [] (λ e. refusal_some c.in-Ok.why (c.in-Ok.ensures ∙ same ∙ e)))

pub new-requires : goal.new-requires
new-requires c =
    let t = c.args.t.now in
    let at = (goal.at.new-requires c).In_default in
    let shaped = subst Shaped c.table.ensures.same c.table_shape.ensures in
    let left : Whole c.step_whole-r.result.table = subst Whole (sym (after at)) (next-whole t c.args.c (record { shaped = shaped; sound = c.table.ensures.whole }) (accepted at)) in
    left.sound

pub returns-clause-number : goal.returns-clause-number
returns-clause-number c = sym (accepted (goal.at.returns-clause-number c).In_default)

pub returns-clause-after : goal.returns-clause-after
returns-clause-after c = c.new.ensures ∙ after (goal.at.returns-clause-after c).In_default
