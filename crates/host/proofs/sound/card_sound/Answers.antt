-- The tests are the definition's, in its order.
use mathlib.Core.Path.{refl, sym, ◌∙◌}
use borrow.Author.Tests.{eq-eqb, ne_eqb, lt-ltb, le-ltb}
use Rattle.host.proofs.sound.Laws.{card-empty, card_here}
use Rattle.host.proofs.sound.card_sound.Goals as goal

pub returns-then-empty_place : goal.returns-then-empty_place
returns-then-empty_place c =
    let a = c.args in
    c.if-empty_place.true ∙ card-empty a.o a.place a.g (sym c.empty_place.ensures ∙ c.if-empty_place.true)

pub returns-then-place-o : goal.returns-then-place-o
returns-then-place-o c =
    let a = c.args in
    c.tally_sound.ensures
    ∙ card_here a.o a.place a.g (sym c.empty_place.ensures ∙ c.if-empty_place.false) (eq-eqb _ _ c.if-g-eq1.true) (lt-ltb _ _ c.if-place-o.true) refl

pub returns-else-place-o : goal.returns-else-place-o
returns-else-place-o c =
    let a = c.args in
    let beyond = le-ltb _ _ c.if-place-o.false in
    beyond ∙ card_here a.o a.place a.g (sym c.empty_place.ensures ∙ c.if-empty_place.false) (eq-eqb _ _ c.if-g-eq1.true) beyond refl

pub returns-else-g-eq1 : goal.returns-else-g-eq1
returns-else-g-eq1 c =
    let a = c.args in
    let away = ne_eqb _ _ c.if-g-eq1.false in
    away ∙ card_here a.o a.place a.g (sym c.empty_place.ensures ∙ c.if-empty_place.false) away refl refl
