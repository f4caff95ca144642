-- The pass decides the place.
use mathlib.Core.Path.{sym, ap}
use mathlib.Core.Bool.{Bool, cond}
use lib.ListN.{set}
use Rattle.deal.proofs.pass.kept.Goals as goal

pub returns-then-first : goal.returns-then-first
returns-then-first c = ap (λ (b : Bool). set c.args.cards (cond b 0 1) c.args.card) (sym c.if-first.true)

pub returns-else-first : goal.returns-else-first
returns-else-first c = ap (λ (b : Bool). set c.args.cards (cond b 0 1) c.args.card) (sym c.if-first.false)
