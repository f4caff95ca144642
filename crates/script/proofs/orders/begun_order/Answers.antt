-- `begun_order` goes face by face: before each turn the faces below it stand behind the first cards.
use mathlib.Core.Path.{◌≡◌, sym}
use native.Mathlib.Omega.{arith}
use Rattle.script.specs.Begun.{placed_faces, begun}
use Rattle.script.proofs.orders.Orders.{faces-next}
use borrow.Author.Rules.{rules}
use Rattle.script.proofs.orders.begun_order.Goals as goal

pub loop-face-init : goal.loop-face-init
unfolding placed_faces
loop-face-init c = search rules

pub overflow_step-face : goal.overflow_step-face
overflow_step-face c = omega arith

pub loop-face-smaller : goal.loop-face-smaller
loop-face-smaller c = omega arith

pub loop-face-preserved : goal.loop-face-preserved
loop-face-preserved c =
    let here = c in
    let args = here.args in
    (omega arith, rw (c.with_face-next.ensures, c.seen.ensures, here.loop-face.invariant.1) (sym (faces-next here.placed_cards-next.result args.first.now args.decks here.loop-face.face)))

pub returns : goal.returns
unfolding begun
returns c =
    let here = c in
    let all : here.loop-face.face ≡ 52 = omega arith in
    rw (here.loop-face.invariant.1, here.placed_cards-next.ensures, all)
