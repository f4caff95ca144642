-- The hand's cards are the first of its array; past their number the definition gives 0 too.
use mathlib.Core.Path.{sym}
use native.Mathlib.Omega.{arith}
use lib.ListN.{take, length-take, get_or-eq_default}
use lib.Seq.{get_or-take}
use Rattle.draw.proofs.split.kept_card.Goals as goal

pub returns-then-h-k : goal.returns-then-h-k
returns-then-h-k c =
    let h = c.args.h in
    sym (get_or-eq_default (take h.count h.cards) 0 (omega (arith, length-take h.count h.cards)))

pub returns : goal.returns
returns c =
    let h = c.args.h in
    sym (get_or-take h.count h.cards c.args.k 0 (omega arith))
