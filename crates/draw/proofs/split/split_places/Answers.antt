-- Each of the four places by itself: what stands before it stays, and what stands behind it moves up one.
use native.Mathlib.Omega.{arith}
use Rattle.draw.proofs.split.Four.{put}
use Rattle.draw.proofs.split.split_places.Goals as goal

pub returns-then-p-eq0 : goal.returns-then-p-eq0
returns-then-p-eq0 c =
    let start = c in
    put start.args.places start.args.p 0 start.args.parent start.args.new start.well_formed.0.1.0.1 c.if-p-eq0.true

pub returns-then-p-eq1 : goal.returns-then-p-eq1
returns-then-p-eq1 c =
    let start = c in
    put start.args.places start.args.p 1 start.args.parent start.args.new start.well_formed.0.1.0.1 c.if-p-eq1.true

pub returns-then-p-eq2 : goal.returns-then-p-eq2
returns-then-p-eq2 c =
    let start = c in
    put start.args.places start.args.p 2 start.args.parent start.args.new start.well_formed.0.1.0.1 c.if-p-eq2.true

pub returns : goal.returns
returns c =
    let start = c in
    put start.args.places start.args.p 3 start.args.parent start.args.new start.well_formed.0.1.0.1 (omega arith)
