-- Their number is compared first; as many as were drawn are the drawn ones exactly if beside those that are counted each face is there.
use mathlib.Core.Path.{◌≡◌, ◌∙◌, ap}
use mathlib.Core.Bool.{and-true, and-false}
use mathlib.Core.List.{List, ◌++◌}
use Prim.Native.Nat.{ℕ, ◌+◌, ◌*◌}
use native.Mathlib.Omega.{arith}
use borrow.Author.Tests.{eq-eqb, ne_eqb}
use lib.ListN.{length, take, length-append, length-take}
use Rattle.table.specs.declared.Table.{Table}
use Rattle.table.specs.Shoe.{left_of, order_of}
use Rattle.table.specs.Table.{hand_cards, bank_cards, table_discards}
use Rattle.table.specs.Faces.{out_cards}
use Rattle.table.specs.Broken.{sound_faces}
use Rattle.card_count.specs.Aids.Counted.{Counted}
use Rattle.card_count.specs.Aids.Left.{left_and_first, OfValid, WithHands}
use Rattle.card_count.proofs.out_cards.Counting.{counted_join}
use Rattle.card_count.proofs.conserved.Beside.{count-first, out_decide}
use Rattle.card_count.proofs.conserved.out_is_drawn.Goals as goal

-- the cards that are out are those in play and the discards
out_many : {of : List ℕ} (t : Table) → OfValid of t → length (out_cards t) ≡ length (hand_cards t ++ bank_cards t) + t.shoe.discarded
out_many t ok =
    omega (
      arith,
      length-append (hand_cards t ++ bank_cards t) (table_discards t),
      ap length ok.discards,
      ok.left.whole,
      length-take (52 * t.options.decks) t.shoe.order,
      length-take t.shoe.discarded t.shoe.order,
      ok.left.within.drawn,
      ok.left.within.discarded,
    )

-- the bank's cards are counted behind those in hands
in_play : {of after : List ℕ} {hands many : ℕ} (t : Table) (ok : WithHands of t hands) → Counted of after (bank_cards t) many 20
    → Counted ok.before after (hand_cards t ++ bank_cards t) (hands + many) 740
in_play t ok bank = counted_join ok.counted bank

pub returns-then-many-t : goal.returns-then-many-t
unfolding sound_faces
returns-then-many-t c =
    let t = c.args.t.now in
    simp (ne_eqb (length (out_cards t)) t.shoe.drawn (λ e. omega (arith, out_many t c.requires.valid, (in_play t c.requires c.count_hand.ensures).number)), and-false)

pub returns : goal.returns
unfolding sound_faces
returns c =
    let t = c.args.t.now in
    let decks = t.options.decks in
    let ok = c.requires.valid in
    let kept = ok.left in
    let play = in_play t c.requires c.count_hand.ensures in
    let many : length (out_cards t) ≡ t.shoe.drawn = omega (arith, out_many t ok, play.number) in
    rw (eq-eqb (length (out_cards t)) t.shoe.drawn many, and-true)
    (c.each_face.ensures
    ∙ out_decide decks t.shoe.drawn (order_of decks t.shoe) (left_and_first decks t.shoe.order t.shoe.drawn t.shoe.discarded) c.requires.before kept.whole kept.within.order kept.counters ok.valid (out_cards t) many kept.within.drawn
    (hand_cards t ++ bank_cards t) _
    (λ b. count-first b (left_of decks t.shoe) (take t.shoe.discarded t.shoe.order) (hand_cards t ++ bank_cards t) (table_discards t) ok.discards)
    play.counters)
