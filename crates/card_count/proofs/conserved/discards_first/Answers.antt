-- The two parts are compared card by card.
use mathlib.Core.Path.{◌≡◌}
use native.Mathlib.Omega.{arith}
use lib.ListN.{length}
use borrow.Author.Rules.{rules}
use Rattle.lists.proofs.Chains.{pointwise-below}
use Rattle.card_count.proofs.conserved.discards_first.Goals as goal

pub returns : goal.returns
returns c =
    let sh = c.args.sh.now in
    let order : length sh.order ≡ 416 = search rules in
    let discards : length sh.discards ≡ 416 = search rules in
    rw c.eq.ensures (pointwise-below sh.discarded sh.discards sh.order (omega (arith, c.requires)) (omega (arith, c.requires)))
