-- The options fill the first 32 bytes, the order lies behind them.
use Rattle.std.proofs.Common.{◌≡◌, ◌∙◌, ap, List, ℕ, length, take, ◌++◌, rules}
use lib.Seq.{paste}
use Rattle.file_spec.specs.Block.{content, sealed}
use Rattle.file_spec.specs.TableBlock.{table_block}
use Rattle.file_writer.proofs.Fills.{empty_block, head-filled}
use Rattle.file_writer.proofs.blocks.table_block.Goals as goal

pub returns : goal.returns
unfolding table_block
returns c =
    let order = c.args.order.now in
    let head = c.option_bytes.result in
    let n = c.min-used.result in
    let part = take n order in
    let wide : length head ≡ 32 = search rules in
    let begun : c.put.new.block ≡ paste empty_block 0 head 32 = c.put.ensures ∙ ap (paste empty_block 0 head) wide in
    c.seal.ensures
    ∙ ap (λ (l : List ℕ). sealed (content l)) (c.put-2.ensures ∙ ap (λ (l : List ℕ). paste l 32 part (length part)) begun)
    ∙ head-filled head order n wide c.min-used.ensures
    ∙ ap (λ (l : List ℕ). sealed (l ++ order)) c.option_bytes.ensures
