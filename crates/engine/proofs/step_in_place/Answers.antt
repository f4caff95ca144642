-- A broken table answers 1, whatever the call, and shows nothing; else the table is whole.
use mathlib.Core.Path.{◌≡◌, refl, sym, ◌∙◌}
use mathlib.Core.Bool.{true}
use mathlib.Core.List.{List}
use Prim.Native.Nat.{ℕ}
use native.Mathlib.Omega.{arith}
use lib.IntN.{ℤ}
use Rattle.call.specs.declared.Call.{Call}
use Rattle.table.specs.declared.Table.{Table}
use Rattle.table.specs.Broken.{broken}
use Rattle.answer.specs.Outcome.{make_outcome}
use Rattle.answer.specs.Reply.{reply_by, given_by, given_of, plain_reply}
use Rattle.answer.proofs.reply.Laws.{refused-step}
use Rattle.engine.specs.Step.{conditions, effect, shown, step as step_by, number}
use Rattle.engine.proofs.BrokenTable.{broken-one}
use Rattle.engine.proofs.step_in_place.Goals as goal

-- a table that is broken is refused by 1, and nothing is shown
refused : (t : Table) (c : Call) (order names : List ℕ) (nets : List ℤ) → broken t ≡ true → given_of (plain_reply (make_outcome 1 t)) names nets ≡ given_by (step_by t c order) names nets
unfolding number step_by reply_by
refused t c order names nets bad =
    refused-step names nets (conditions t c order) (effect t c order) t (shown t c (effect t c order)) 1 (plain_reply (make_outcome 1 t)) refl (sym (broken-one t bad c order)) (λ e. absurd (omega arith))

pub returns-then-broken : goal.returns-then-broken
returns-then-broken c =
    let t = c.args.table.now in
    rw (c.scored_answer.ensures, c.number.ensures, c.no_scores.ensures)
    (refused t c.args.c c.args.order.now c.args.names.now c.args.nets.now (sym c.broken.ensures ∙ c.if-broken.true))
