-- The number of calls, then their bytes.
use Rattle.std.proofs.Common.{◌∙◌, ap, List, ℕ, take, ◌*◌, arith, length-take}
use Rattle.lists.proofs.Takes.{take_clamped}
use Rattle.file_spec.specs.Block.{content, sealed}
use Rattle.file_spec.specs.Writer.{block_of}
use Rattle.file_writer.proofs.Fills.{calls-filled}
use Rattle.file_writer.proofs.blocks.call_block.Goals as goal

pub returns : goal.returns
returns c =
    let bytes = c.args.bytes.now in
    let many = c.args.many in
    let n = c.min-used.result in
    let part = take n bytes in
    c.seal.ensures
    ∙ ap (λ (l : List ℕ). sealed (content l)) c.put.ensures
    ∙ calls-filled many part (omega (arith, c.min-used.ensures, length-take n bytes))
    ∙ ap (block_of many) (take_clamped bytes (10 * many) n (omega (arith, c.min-used.ensures, c.from.ensures)))
