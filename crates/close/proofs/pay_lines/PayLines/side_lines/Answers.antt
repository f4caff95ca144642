-- The lines of the four kinds, one run behind the other.
use mathlib.Core.Path.{sym}
use mathlib.Core.Bool.{cond}
use mathlib.Core.List.{List, ◌++◌, map, map-append}
use Prim.Native.Nat.{ℕ}
use lib.ListN.{take}
use Rattle.payment.specs.Bets.{side}
use Rattle.payment.specs.Pays.{Due, side_due, side_pays}
use Rattle.close_spec.specs.PayLines.{line_of}
use Rattle.close.proofs.pay_lines.Lines.{put_more}
use Rattle.close.proofs.pay_lines.PayLines.side_lines.Goals as goal

pub returns : goal.returns
unfolding side_pays
returns c =
    let third = c in
    let second = third in
    let one = second in
    let a = one.args in
    let as_line = line_of a.guest.seat a.guest.position in
    let due : ℕ → List Due = λ k. side_due k (side a.sides k) (take (cond a.split 3 2) a.first) in
    let two = put_more (map as_line (due 1)) (map as_line (due 2)) _ one.side_line.ensures second.side_line-2.ensures (sym (map-append as_line (due 1) (due 2))) in
    let three = put_more (map as_line (due 1 ++ due 2)) (map as_line (due 3)) _ two third.side_line-3.ensures (sym (map-append as_line (due 1 ++ due 2) (due 3))) in
    put_more (map as_line (due 1 ++ due 2 ++ due 3)) (map as_line (due 4)) _ three c.side_line-4.ensures (sym (map-append as_line (due 1 ++ due 2 ++ due 3) (due 4)))
