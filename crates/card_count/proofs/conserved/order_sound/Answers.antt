-- Each test is one of the definition's; an order that the array has no room for is not valid, and the discards of a shoe have room where they are drawn.
use mathlib.Core.Path.{◌≡◌, sym, ◌∙◌}
use mathlib.Core.Bool.{true, ◌&&◌, and-true, and-false}
use Prim.Native.Nat.{◌*◌}
use native.Mathlib.Omega.{arith}
use borrow.Author.Tests.{eqb-true, le-leb, lt-leb}
use lib.Dec.{eqb}
use lib.ListN.{length, take, get_or}
use Rattle.lists.specs.Below.{all_below}
use Rattle.lists.proofs.Below.{all_below_lem}
use Rattle.lists.proofs.Places.{taken-same}
use Rattle.table.specs.declared.Shoe.{Shoe}
use Rattle.table.specs.declared.Table.{Table}
use Rattle.table.specs.Broken.{sound_shoe, sound_discards}
use Rattle.table.specs.Shoe.{valid_order, discards_of}
use Rattle.table.specs.Table.{table_order}
use Rattle.card_count.specs.Aids.Left.{OrderFits}
use Rattle.card_count.proofs.valid_order.Orders.{too_short}
use Rattle.card_count.proofs.conserved.order_sound.Goals as goal

-- what the comparison of the discards gives
discards_are : (sh : Shoe) → length sh.discards ≡ length sh.order → all_below (λ k. eqb (get_or sh.discards k 0) (get_or sh.order k 0)) sh.discarded ≡ true → discards_of sh ≡ take sh.discarded sh.order
discards_are sh same e =
    taken-same sh.discarded sh.discards sh.order 0
    (λ k h. eqb-true _ _ (all_below_lem (λ i. eqb (get_or sh.discards i 0) (get_or sh.order i 0)) sh.discarded k e h)) same

-- behind the other tests the order decides
order_decides : (t : Table) → OrderFits t.options.decks t.shoe.order t.shoe.drawn t.shoe.discarded → all_below (λ k. eqb (get_or t.shoe.discards k 0) (get_or t.shoe.order k 0)) t.shoe.discarded ≡ true
    → valid_order t.options.decks (table_order t) ≡ (sound_shoe t && sound_discards t)
unfolding sound_shoe sound_discards
order_decides t within first =
    sym (simp (
      le-leb t.shoe.drawn (52 * t.options.decks) within.drawn,
      le-leb t.shoe.discarded 416 (omega (arith, within.order, within.drawn, within.discarded)),
      le-leb t.shoe.discarded t.shoe.drawn within.discarded,
      first,
      and-true,
    ))

pub returns-then-all-gt416-clause-tests : goal.returns-then-all-gt416-clause-tests
unfolding sound_shoe
returns-then-all-gt416-clause-tests c =
    let t = c.args.t.now in
    let full : length t.shoe.order ≡ 416 = c.cards_shape.ensures in
    simp (too_short t.options.decks (52 * t.options.decks) t.shoe.order (omega arith))

pub returns-then-all-shoe-clause-tests : goal.returns-then-all-shoe-clause-tests
unfolding sound_shoe
returns-then-all-shoe-clause-tests c = let t = c.args.t.now in simp (lt-leb t.shoe.drawn (52 * t.options.decks) (omega arith), and-false)

pub returns-then-shoe-clause-tests : goal.returns-then-shoe-clause-tests
unfolding sound_discards
returns-then-shoe-clause-tests c = let t = c.args.t.now in simp (lt-leb t.shoe.discarded t.shoe.drawn (omega arith), and-false)

pub returns-then-not-discards_first-clause-tests : goal.returns-then-not-discards_first-clause-tests
unfolding sound_discards
returns-then-not-discards_first-clause-tests c = simp (sym c.discards_first.ensures ∙ c.if-not-discards_first.true, and-false)

pub returns-clause-tests : goal.returns-clause-tests
returns-clause-tests c = c.order_valid.ensures ∙ order_decides c.args.t.now c.count_left.ensures.within (sym c.discards_first.ensures ∙ c.if-not-discards_first.false)

pub returns-clause-counters : goal.returns-clause-counters
returns-clause-counters c e =
    let t = c.args.t.now in
    let order : length t.shoe.order ≡ 416 = c.cards_shape.ensures in
    let discards : length t.shoe.discards ≡ 416 = c.cards_shape-2.ensures in
    record { left = c.count_left.ensures; valid = sym c.order_valid.ensures ∙ e; discards = discards_are t.shoe (discards ∙ sym order) (sym c.discards_first.ensures ∙ c.if-not-discards_first.false) }
