-- Place by place: before each turn each of the first k holds a card that sits nowhere before, and one that does not decides.
use Rattle.std.proofs.Common.{◌≡◌, ◌&&◌, length, refl, sym, ◌∙◌, rules, arith}
use lib.ListN.{get_or}
use Rattle.lists.specs.Below.{all_below}
use Rattle.lists.proofs.Below.{below_passes}
use Rattle.host_spec.specs.declared.GuestCard.{GuestCard}
use Rattle.host_spec.specs.Cards.{no_card, is_here, holds}
use Rattle.host_spec.specs.Broken.{each_once}
use Rattle.host.proofs.sound.Laws.{one_fails, none_before, passes}
use Rattle.host.proofs.sound.each_new.Goals as goal

pub loop-k-init : goal.loop-k-init
unfolding all_below
loop-k-init c = refl

pub returns-then-not-new_behind : goal.returns-then-not-new_behind
unfolding each_once
returns-then-not-new_behind c =
    let cards = c.args.cards in
    let k = c.loop-k.k in
    let full : length cards ≡ 27 = search rules in
    let g = get_or cards k no_card in
    let before = none_before (λ (f : GuestCard). is_here f && holds f.card g) cards no_card k (omega arith) in
    one_fails (passes cards) 27 k (omega arith) (sym (c.new_behind.ensures ∙ before) ∙ c.if-not-new_behind.true)

pub loop-k-preserved : goal.loop-k-preserved
loop-k-preserved c =
    let cards = c.args.cards in
    let k = c.loop-k.k in
    let full : length cards ≡ 27 = search rules in
    let g = get_or cards k no_card in
    let before = none_before (λ (f : GuestCard). is_here f && holds f.card g) cards no_card k (omega arith) in
    below_passes (passes cards) k (sym (c.new_behind.ensures ∙ before) ∙ c.if-not-new_behind.false) ∙ c.loop-k.invariant

pub returns : goal.returns
unfolding each_once
returns c =
    let full : length c.args.cards ≡ 27 = search rules in
    let all : c.loop-k.k ≡ 27 = omega arith in
    sym (rw all at c.loop-k.invariant)
