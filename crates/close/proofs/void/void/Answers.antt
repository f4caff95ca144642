-- Why it is refused, or the effect, and an accepted call's table is sound.
use mathlib.Core.Path.{sym, ◌∙◌, ap}
use Rattle.answer.proofs.outcome.Laws.{refused-whole, accepted}
use Rattle.close_spec.specs.Void.{void_effect}
use Rattle.close_spec.proofs.Void.{void-accepted}
use Rattle.close.proofs.void.void.Goals as goal

pub returns-in_err-check_void : goal.returns-in_err-check_void
returns-in_err-check_void c = refused-whole _ _ _ _ _ c.from_residual.ensures.1 c.in_err-check_void.ensures

pub voided-requires : goal.voided-requires
voided-requires c = rw c.table.ensures.same (void-accepted c.args.t.now (sym c.in_ok-check_void.ensures)).sound

pub returns : goal.returns
returns c = accepted _ _ _ c.in_ok-check_void.ensures (c.voided.ensures ∙ ap void_effect c.table.ensures.same)
