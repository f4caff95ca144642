-- `counted` counts the cards by byte and takes the counters of the 52 faces, one after the other.
use mathlib.Core.Path.{◌≡◌, refl, sym, ◌∙◌, ap}
use mathlib.Core.List.{List, ◌++◌}
use Prim.Native.Nat.{ℕ, ◌<◌}
use native.Mathlib.Omega.{arith}
use lib.ListN.{length, take, get_or, length-set, length-take}
use lib.Seq.{take_all, get_or-take, length-take-le}
use borrow.Author.Rules.{rules}
use Rattle.lists.specs.Sum.{is_it, count_of}
use Rattle.lists.proofs.Sums.{sum-append}
use Rattle.card_count.specs.Aids.Counters.{no_counts, counted_all}
use Rattle.faces_left.specs.FacesLeft.{counts_below}
use Rattle.faces_left.proofs.Parts.{face_stored, both-counted}
use Rattle.faces_left.proofs.counts.counted.Goals.{After-count-2}
use Rattle.faces_left.proofs.counts.counted.Goals as goal

-- the counters of both lists, of the 52 faces
whole : (c : After-count-2) → length (take 52 c.count-2.new.of) ≡ 52
whole c =
    let full : length c.count-2.new.of ≡ 256 = search rules in
    omega (arith, length-take 52 c.count-2.new.of)

counters : (c : After-count-2) (face : ℕ) → face < 52
    → get_or (take 52 c.count-2.new.of) face 0 ≡ count_of face (c.args.first.now ++ c.args.second.now)
unfolding no_counts
counters c face h =
    let first = c.args.first.now in
    let second = c.args.second.now in
    get_or-take 52 c.count-2.new.of face 0 h ∙ both-counted first second c.count-2.new.of face (c.count-2.ensures ∙ ap (λ (of : List ℕ). counted_all of second) c.count.ensures) (omega arith)
    (omega (arith, c.requires.each face h, sum-append (is_it face) first second))

pub slice_bounds-count-items-end : goal.slice_bounds-count-items-end
slice_bounds-count-items-end c =
    let full : length c.count-2.new.of ≡ 256 = search rules in
    sym (length-take-le 52 c.count-2.new.of (omega arith))

pub loop-face-init : goal.loop-face-init
unfolding counts_below
loop-face-init c = (omega arith, refl, refl)

pub overflow_cast-counts : goal.overflow_cast-counts
overflow_cast-counts c =
    let face = c.loop-face.face in
    let full = whole (goal.at.overflow_cast-counts c).After-count-2 in
    omega (arith, full, counters (goal.at.overflow_cast-counts c).After-count-2 face (omega (arith, full)), sum-append (is_it face) c.args.first.now c.args.second.now, c.requires.each face (omega (arith, full)))

pub bounds-counts-face : goal.bounds-counts-face
bounds-counts-face c = omega (arith, whole (goal.at.bounds-counts-face c).After-count-2)

pub loop-face-smaller : goal.loop-face-smaller
loop-face-smaller c = omega (arith, whole (goal.at.loop-face-smaller c).After-count-2)

pub loop-face-preserved : goal.loop-face-preserved
loop-face-preserved c =
    let face = c.loop-face.face in
    let counts = c.loop-face.counts in
    let full = whole (goal.at.loop-face-preserved c).After-count-2 in
    let many = get_or (take 52 c.count-2.new.of) face 0 in (
      omega (arith, full),
      length-set counts face many ∙ c.loop-face.invariant.1,
      face_stored (c.args.first.now ++ c.args.second.now) counts face many (omega (arith, full, c.loop-face.invariant.1)) c.loop-face.invariant.2 (counters (goal.at.loop-face-preserved c).After-count-2 face (omega (arith, full))),
    )

pub returns : goal.returns
returns c =
    let counts = c.loop-face.counts in
    let face = c.loop-face.face in
    let all : face ≡ 52 = omega (arith, c.loop-face.invariant.0, whole (goal.at.returns c).After-count-2) in
    sym (take_all face counts (omega (arith, all, c.loop-face.invariant.1))) ∙ c.loop-face.invariant.2 ∙ ap (counts_below (c.args.first.now ++ c.args.second.now)) all
