-- `by_points` adds the counts face by face to that of its stand-in: before each turn they count the cards of the first i faces.
use mathlib.Core.Path.{◌≡◌, refl}
use native.Mathlib.Omega.{arith}
use mir.Syntax.{w8}
use mir.Val.{Fits}
use lib.ListN.{length, get_or, length-set}
use lib.Seq.{take_all}
use Rattle.lists.specs.Sum.{sum_of}
use Rattle.bank_chances.specs.CardsLeft.{cards_from}
use Rattle.bank_chances.proofs.Faces.{none-at, standing-next, few_next}
use borrow.Author.Rules.{rules}
use Rattle.bank_chances.proofs.left.by_points.Goals as goal

pub loop-face-init : goal.loop-face-init
unfolding cards_from sum_of
loop-face-init c = (omega arith, refl, record { each = λ p h. none-at 10 p }, λ p. omega (arith, none-at 10 p))

pub overflow_cast-face : goal.overflow_cast-face
overflow_cast-face c = omega arith

pub offset_bounds-counts-at : goal.offset_bounds-counts-at
offset_bounds-counts-at c = record { fits = omega (arith, c.stand_in-at.ensures) }

pub bounds-counts-at : goal.bounds-counts-at
bounds-counts-at c = omega (arith, c.stand_in-at.ensures)

pub overflow_add-counts : goal.overflow_add-counts
overflow_add-counts c =
    let left = c.args.left in
    let i = c.loop-face.face in
    let byte : Fits w8 (get_or left i 0) = search rules in
    omega (arith, c.loop-face.invariant.3 c.stand_in-at.result)

pub loop-face-preserved : goal.loop-face-preserved
loop-face-preserved c =
    let left = c.args.left in
    let counts = c.loop-face.counts in
    let i = c.loop-face.face in
    let at = c.stand_in-at.result in
    let full : length left ≡ 52 = search rules in
    let byte : Fits w8 (get_or left i 0) = search rules in
    let ten = c.loop-face.invariant.1 in (
      omega arith,
      simp length-set ten,
      standing-next left counts i at ten c.stand_in-at.ensures (omega arith) c.loop-face.invariant.2,
      few_next left counts i at ten c.stand_in-at.ensures byte.fits c.loop-face.invariant.3,
    )

pub returns : goal.returns
returns c =
    let left = c.args.left in
    let full : length left ≡ 52 = search rules in
    rw (take_all c.loop-face.face left (omega arith)) at c.loop-face.invariant.2
