-- Place by place: before each turn the first k are sound, and one that is not decides.
use Rattle.std.proofs.Common.{◌≡◌, Bool, List, ℕ, length, refl, sym, ◌∙◌, rules, arith}
use lib.ListN.{get_or}
use Rattle.lists.specs.Below.{all_below}
use Rattle.lists.proofs.Below.{below_passes}
use Rattle.options.specs.declared.Options.{Options}
use Rattle.host_spec.specs.declared.GuestCard.{GuestCard}
use Rattle.host_spec.specs.Cards.{no_card}
use Rattle.host_spec.specs.Broken.{sound_card}
use Rattle.host.proofs.sound.Laws.{one_fails}
use Rattle.host.proofs.sound.each_sound.Goals as goal

abbrev passes : Options → List GuestCard → ℕ → Bool
passes o cards k = sound_card o k (get_or cards k no_card)

pub loop-k-init : goal.loop-k-init
unfolding all_below
loop-k-init c = refl

pub returns-then-not-card_sound : goal.returns-then-not-card_sound
returns-then-not-card_sound c =
    let full : length c.args.cards ≡ 27 = search rules in
    one_fails (passes c.args.o c.args.cards) 27 c.loop-k.k (omega arith) (sym c.card_sound.ensures ∙ c.if-not-card_sound.true)

pub loop-k-preserved : goal.loop-k-preserved
loop-k-preserved c = below_passes (passes c.args.o c.args.cards) c.loop-k.k (sym c.card_sound.ensures ∙ c.if-not-card_sound.false) ∙ c.loop-k.invariant

pub returns : goal.returns
returns c =
    let full : length c.args.cards ≡ 27 = search rules in
    let all : c.loop-k.k ≡ 27 = omega arith in
    sym (rw all at c.loop-k.invariant)
