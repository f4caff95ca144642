-- Seat by seat: before each turn the scores are those of the staked seats before it, and so at most as many.
use mathlib.Core.Path.{◌≡◌, ◌∙◌, ap}
use mathlib.Core.List.{List, map}
use native.Mathlib.Omega.{arith}
use borrow.Author.Tests.{lt-ltb, le-ltb}
use lib.ListN.{length, length-map}
use lib.Seq.{take_all}
use Rattle.lists.specs.Tests.{those}
use Rattle.table.specs.declared.Seat.{Seat}
use Rattle.table.specs.Seat.{is_staked}
use Rattle.answer.specs.Scores.{scores_of}
use Rattle.answer.proofs.scores.Laws.{scores_are}
use Rattle.engine.specs.Scores.{place_score}
use Rattle.engine.proofs.scores.Laws.{scores_to, score-next, score-same}
use borrow.Author.Rules.{rules}
use Rattle.engine.proofs.scores.deal_scores.Goals as goal
use Rattle.engine.proofs.scores.deal_scores.Goals.{then-s-gt0, else-s-gt0}

pub loop-s-init : goal.loop-s-init
unfolding those
loop-s-init c = (c.no_scores-all.ensures, omega arith)

pub loop-s-preserved : goal.loop-s-preserved
loop-s-preserved c =
    let t = c.args.after in
    let i = c.loop-s.s-index in
    let full : length t.seats ≡ 9 = search rules in
    let more = score-next t.seats i (omega arith) c.loop-s.all c.loop-s.invariant.0 c.loop-s.invariant.1 in
    let same = score-same t.seats i (omega arith) c.loop-s.all c.loop-s.invariant.0 c.loop-s.invariant.1 in
    elim c.if-s-gt0.branch [
      | then-s-gt0 w ↦ more (omega arith) (lt-ltb _ _ w.if-s-gt0.true) c.if-s-gt0.all w.seat_score.result (w.all-is ∙ w.with_score-all.ensures) w.seat_score.ensures
      | else-s-gt0 w ↦ same (le-ltb _ _ w.if-s-gt0.false) c.if-s-gt0.all w.all-is
    ]

pub returns : goal.returns
returns c =
    let t = c.args.after in
    let full : length t.seats ≡ 9 = search rules in
    ap scores_of c.loop-s.invariant.0
    ∙ scores_are (scores_to t.seats c.loop-s.s-index) (rw length-map (omega arith))
    ∙ ap (λ (ss : List Seat). map (λ s. place_score s 0) (those is_staked ss)) (take_all c.loop-s.s-index t.seats (omega arith))
