-- `check_sum` adds byte by byte: before each turn it has the sum of the first i bytes, each term at most 255 × 508.
use Rattle.std.proofs.Common.{◌≡◌, ◌∙◌, ap, ℕ, ◌<◌, get_or, take, arith, rules}
use lib.Seq.{get_or-take, length-take-le}
use Rattle.file_spec.specs.Block.{weighed}
use Rattle.file_block.proofs.Bytes.{weighed-next, term_most}
use Rattle.file_block.proofs.block.check_sum.Goals as goal

pub loop-i-init : goal.loop-i-init
unfolding weighed
loop-i-init c = search rules

pub overflow_add-sum-in-loop-i : goal.overflow_add-sum-in-loop-i
overflow_add-sum-in-loop-i c =
    let block = c.args.block.now in
    let i = c.loop-i.i in
    let inside : i < 508 = omega (arith, c.loop-i-test.true, length-take-le 508 block (omega arith)) in
    let byte : c.from.result < 256 = omega (arith, c.from.ensures, get_or-take 508 block i 0 inside, c.fits-block i) in
    omega (arith, term_most c.from.result i byte inside)

pub loop-i-preserved : goal.loop-i-preserved
loop-i-preserved c =
    let block = c.args.block.now in
    let i = c.loop-i.i in
    let inside : i < 508 = omega (arith, c.loop-i-test.true, length-take-le 508 block (omega arith)) in
    let here : c.from.result ≡ get_or block i 0 = c.from.ensures ∙ get_or-take 508 block i 0 inside in
    let byte : c.from.result < 256 = omega (arith, here, c.fits-block i) in
    let most = term_most c.from.result i byte inside in
    (rw (c.loop-i.invariant.0, here) (weighed-next block i (omega arith)), omega (arith, c.loop-i.invariant.1))

pub returns : goal.returns
returns c =
    let i : c.loop-i.i ≡ 508 = omega (arith, length-take-le 508 c.args.block.now (omega arith)) in
    c.loop-i.invariant.0 ∙ ap (λ (n : ℕ). weighed 0 (take n c.args.block.now)) i
