-- Of options in range the decks are at most eight, so the order lies in the block.
use mathlib.Core.Path.{◌≡◌, sym, ◌∙◌}
use mathlib.Core.Bool.{true}
use mathlib.Core.List.{List}
use Prim.Native.Nat.{ℕ, ◌≤◌}
use native.Mathlib.Omega.{arith}
use lib.ListN.{get_or}
use Rattle.options.specs.declared.Options.{Options}
use Rattle.options.specs.Ranges.{in_range}
use Rattle.options.proofs.Facts.{in_range_facts}
use Rattle.file_spec.specs.TableBlock.{options_in}
use Rattle.file_block.proofs.table_block.has_table.Goals as goal

few : (block : List ℕ) (o : Options) → o ≡ options_in block → in_range o ≡ true → get_or block 1 0 ≤ 8
unfolding options_in
few block o same range = (in_range_facts (options_in block) (rw (← same) range)).decks_most

pub slice_bounds-valid_order-end : goal.slice_bounds-valid_order-end
slice_bounds-valid_order-end c = omega (arith, few c.args.block.now c.options_in.result c.options_in.ensures (sym c.in_range.ensures ∙ c.if-not-in_range.false))

pub slice_bounds-all_zero-count-then-all_zero : goal.slice_bounds-all_zero-count-then-all_zero
slice_bounds-all_zero-count-then-all_zero c = omega (arith, few c.args.block.now c.options_in.result c.options_in.ensures (sym c.in_range.ensures ∙ c.if-not-in_range.false))

pub slice_bounds-all_zero-start-then-all_zero : goal.slice_bounds-all_zero-start-then-all_zero
slice_bounds-all_zero-start-then-all_zero c = omega (arith, few c.args.block.now c.options_in.result c.options_in.ensures (sym c.in_range.ensures ∙ c.if-not-in_range.false))
