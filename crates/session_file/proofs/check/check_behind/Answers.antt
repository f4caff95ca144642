-- The block that is looked at decides, or those behind it do.
use Rattle.std.proofs.Common.{◌≡◌, rules, sym, ◌∙◌, get_or, []}
use mathlib.Core.Bool.{not, ◌&&◌}
use Rattle.call.specs.Refusal.{number_in, number_of}
use Rattle.file_spec.specs.CallBlock.{ends_in_load}
use Rattle.session_file.proofs.Blocks.{refused_block, passed_block, behind-end}
use Rattle.session_file.proofs.check.check_behind.Goals.{then-not-loaded, else-not-loaded}
use Rattle.session_file.proofs.check.check_behind.Goals as goal

pub returns-in_err-check_block : goal.returns-in_err-check_block
returns-in_err-check_block c =
    let same : number_in c.from_residual.result ≡ number_of c.in_err-check_block.field-0.0 = search rules in
    same ∙ refused_block c.args.start.now c.loop-i.loaded c.args.blocks.now c.loop-i.i c.loop-i-test.true c.in_err-check_block.field-0.0 c.in_err-check_block.ensures ∙ c.loop-i.invariant

pub loop-i-preserved : goal.loop-i-preserved
loop-i-preserved c =
    let block = get_or c.args.blocks.now c.loop-i.i [] in
    let loaded : c.if-not-loaded.loaded ≡ (not c.loop-i.loaded && ends_in_load block)
    = elim c.if-not-loaded.branch [ then-not-loaded w ↦ rw w.if-not-loaded.true (w.loaded-is ∙ w.ends_in_load-loaded.ensures) | else-not-loaded w ↦ w.loaded-is ∙ rw w.if-not-loaded.false ] in
    rw loaded (passed_block c.args.start.now c.loop-i.loaded c.args.blocks.now c.loop-i.i c.loop-i-test.true c.in_ok-check_block.ensures ∙ c.loop-i.invariant)

pub returns : goal.returns
returns c = sym (behind-end c.args.start.now c.loop-i.loaded c.args.blocks.now c.loop-i.i c.loop-i-test.false) ∙ c.loop-i.invariant
