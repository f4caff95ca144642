-- The four side stakes, each with its bound, added up.
use native.Mathlib.Omega.{arith}
use lib.ListN.{take}
use mathlib.Core.Bool.{cond}
use Rattle.payment.proofs.Pays.{sides_back}
use Rattle.close.proofs.paying.sides_back.Goals as goal

pub returns : goal.returns
returns c =
    let third = c in
    let second = third in
    let one = second in
    let a = one.args in
    record { same = rw (sides_back a.sides (take (cond a.split 3 2) a.first), one.side_back-pair.ensures.same, second.side_back-sevens.ensures.same, third.side_back-more.ensures.same, c.side_back-less.ensures.same); small = omega arith }
