-- `cards_named` goes over its 64 places: before each turn the first i of them have their cards.
use mathlib.Core.Path.{◌≡◌, refl, sym, ◌∙◌, ap}
use native.Mathlib.Numerals.{add-one}
use native.Mathlib.Omega.{arith}
use lib.ListN.{length-set}
use lib.Seq.{take_all, take-suc-set}
use Rattle.script.specs.Named.{cards_below}
use Rattle.script.proofs.named.cards_named.Goals as goal

pub loop-i-init : goal.loop-i-init
unfolding cards_below
loop-i-init c = (omega arith, refl, refl)

pub overflow_step-i : goal.overflow_step-i
overflow_step-i c = omega arith

pub loop-i-smaller : goal.loop-i-smaller
loop-i-smaller c = omega arith

pub loop-i-preserved : goal.loop-i-preserved
unfolding cards_below
loop-i-preserved c =
    let here = c in
    let cards = here.loop-i.cards in
    let i = here.loop-i.i in
    let card = c.card_at.result in (
      omega arith,
      length-set cards i card ∙ here.loop-i.invariant.1,
      rw (add-one, take-suc-set cards i card (omega arith), here.loop-i.invariant.2, c.card_at.ensures),
    )

pub returns : goal.returns
returns c =
    let cards = c.loop-i.cards in
    let all : c.loop-i.i ≡ 64 = omega arith in
    sym (take_all c.loop-i.i cards (omega arith)) ∙ c.loop-i.invariant.2 ∙ ap (cards_below c.args.letters.now) all
