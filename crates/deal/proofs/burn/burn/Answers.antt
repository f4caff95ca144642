-- The first cards that are left are copied behind the discards.
use mathlib.Core.Path.{◌≡◌, sym, refl}
use Prim.Native.Nat.{◌-◌, ◌+◌, ◌*◌}
use native.Mathlib.Omega.{arith}
use mathlib.Core.List.{append_assoc}
use lib.ListN.{length, take}
use lib.Seq.{sets-eq, length-take-le, drop-drop}
use Rattle.lists.proofs.Parts.{part_of_take}
use Rattle.table.specs.Shoe.{left_of}
use Rattle.shoe.proofs.Left.{left-length}
use Rattle.shoe.proofs.Discards.{discard_stored}
use borrow.Author.Rules.{rules}
use Rattle.deal.proofs.burn.burn.Goals as goal

pub returns : goal.returns
returns c =
    let a = c.args in
    let sh = a.sh in
    let order : length sh.order ≡ 416 = search rules in
    let discards : length sh.discards ≡ 416 = search rules in
    let cards = take a.n (left_of a.decks sh) in
    let many : length cards ≡ a.n = length-take-le a.n (left_of a.decks sh) (omega (arith, left-length sh.order (52 * a.decks) (omega arith) sh.drawn)) in
    let drawn : (sh.drawn + a.n) - sh.drawn ≡ a.n = omega arith in
    let behind : (sh.discarded + a.n) - sh.discarded ≡ a.n = omega arith in
    discard_stored sh _ cards a.n
    (rw (c.copy_from_slice.ensures.after, drawn, behind, sets-eq cards sh.discards sh.discarded (omega arith), many, part_of_take a.n sh.drawn (52 * a.decks) sh.order (omega arith), append_assoc, drop-drop) refl)
    (sym many)
