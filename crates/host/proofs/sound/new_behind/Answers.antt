-- No card holds a place without one; else the places before it are asked in their order.
use Rattle.std.proofs.Common.{not, ◌&&◌, sym, ap, ◌∙◌, rules, tests}
use Rattle.std.proofs.lemmas.Iterator.{YieldsList-from_slice}
use Rattle.std.proofs.lemmas.Iterator.Search.{any_from_yields_List}
use borrow.Author.Tests.{ne_eqb}
use Rattle.lists.proofs.Chains.{any_of-list_any}
use Rattle.host_spec.specs.declared.GuestCard.{GuestCard}
use Rattle.host_spec.specs.Cards.{is_here, holds}
use Rattle.host.proofs.sound.Laws.{sits_nowhere}
use Rattle.host.proofs.sound.new_behind.Goals as goal

pub returns-then-g-ne1 : goal.returns-then-g-ne1
returns-then-g-ne1 c = ap not (ne_eqb c.args.g.here 1 c.if-g-ne1.true ∙ sym (sits_nowhere c.args.g c.args.before.now c.if-g-ne1.true))

pub returns-else-g-ne1 : goal.returns-else-g-ne1
returns-else-g-ne1 c =
    let test = λ (f : GuestCard). is_here f && holds f.card c.args.g in
    let asked = any_from_yields_List test _ _ _ c.any.ensures.ran (YieldsList-from_slice c.args.before.now cc) (λ x b q k. search (rules, tests)) in
    ap not (asked ∙ sym (any_of-list_any test c.args.before.now))
