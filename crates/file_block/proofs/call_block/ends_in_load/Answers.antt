-- The last call of a block that has some is a load by its kind; one that would lie behind the block is none.
use mathlib.Core.Path.{◌≡◌, sym, ap, ◌∙◌}
use Prim.Native.Nat.{ℕ, ◌+◌, ◌-◌, ◌*◌, ◌≤◌}
use native.Mathlib.Omega.{arith}
use borrow.Author.Tests.{le-ltb}
use lib.Dec.{eqb}
use lib.ListN.{length, get_or, get_or-eq_default}
use Rattle.file_spec.specs.CallBlock.{many_in}
use Rattle.file_block.proofs.Pieces.{ends_in_load_lem, ends_in-none}
use Rattle.file_block.proofs.call_block.ends_in_load.Goals as goal

pub returns-then-many-eq0 : goal.returns-then-many-eq0
returns-then-many-eq0 c = sym (ends_in-none c.args.block.now c.if-many-eq0.true)

pub returns-then-at-lt512 : goal.returns-then-at-lt512
returns-then-at-lt512 c =
    let block = c.args.block.now in
    let many : many_in block ≡ many_in block - 1 + 1 = omega arith in
    let place : 10 * many_in block - 9 ≡ 1 + 10 * (many_in block - 1) = omega arith in
    ap (λ (n : ℕ). eqb (get_or block n 0) 17) place ∙ sym (ends_in_load_lem block (many_in block - 1) many)

pub returns-else-at-lt512 : goal.returns-else-at-lt512
returns-else-at-lt512 c =
    let block = c.args.block.now in
    let many : many_in block ≡ many_in block - 1 + 1 = omega arith in
    let past : length block ≤ 1 + 10 * (many_in block - 1) = omega arith in
    le-ltb _ _ c.if-at-lt512.false ∙ sym (ends_in_load_lem block (many_in block - 1) many ∙ ap (λ (k : ℕ). eqb k 17) (get_or-eq_default block 0 {n = 1 + 10 * (many_in block - 1)} past))
