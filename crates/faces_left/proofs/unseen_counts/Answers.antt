-- What is counted are the order's cards behind the drawn ones, and the bank's behind the up card.
use mathlib.Core.Path.{◌≡◌, sym, ◌∙◌, ap, subst}
use mathlib.Core.Bool.{true, false}
use Prim.Native.Nat.{◌-◌, ◌*◌}
use native.Mathlib.Omega.{arith}
use lib.ListN.{length, take, drop, length-drop}
use lib.Seq.{take_all}
use Rattle.table.specs.declared.Table.{Table}
use Rattle.table.specs.Broken.{broken}
use Rattle.table.specs.Table.{bank_cards, table_shoe, is_dealt}
use Rattle.table.proofs.Facts.{unbroken, decks_416}
use Rattle.faces_left.specs.FacesLeft.{unseen, counts_below}
use Rattle.faces_left.proofs.Parts.{part}
use Rattle.faces_left.proofs.Unseen.{few_left}
use Rattle.faces_left.proofs.unseen_counts.Goals.{After-table-t}
use Rattle.faces_left.proofs.unseen_counts.Goals as goal

whole : (c : After-table-t) → broken c.table-t.result.now ≡ false
whole c = subst (λ (u : Table). broken u ≡ false) (sym c.table-t.ensures.same) c.table-t.ensures.whole

pub slice_bounds-counted-count : goal.slice_bounds-counted-count
slice_bounds-counted-count c = (unbroken c.table-t.result.now (whole (goal.at.slice_bounds-counted-count c).After-table-t)).drawn

pub slice_bounds-counted-start : goal.slice_bounds-counted-start
slice_bounds-counted-start c = (unbroken c.table-t.result.now (whole (goal.at.slice_bounds-counted-start c).After-table-t)).drawn

pub slice_bounds-counted-end : goal.slice_bounds-counted-end
slice_bounds-counted-end c =
    let t = c.table-t.result.now in
    omega (arith, decks_416 t (unbroken t (whole (goal.at.slice_bounds-counted-end c).After-table-t)))

pub counted-requires : goal.counted-requires
counted-requires c =
    let t = c.table-t.result.now in
    let sound = whole (goal.at.counted-requires c).After-table-t in
    let left : take (52 * t.options.decks - t.shoe.drawn) (drop t.shoe.drawn t.shoe.order) ≡ table_shoe t = part t.shoe.drawn (52 * t.options.decks) t.shoe.order (unbroken t sound).drawn in
    let hidden : take (length (bank_cards t) - 1) (drop 1 (bank_cards t)) ≡ drop 1 (bank_cards t) = take_all (length (bank_cards t) - 1) (drop 1 (bank_cards t)) (omega (arith, length-drop 1 (bank_cards t))) in
    let dealt : is_dealt t ≡ true = subst (λ (u : Table). is_dealt u ≡ true) (sym c.table-t.ensures.same) c.requires in
    rw (c.held_cards.ensures, left, hidden) (few_left t sound dealt)

pub returns : goal.returns
returns c =
    let t = c.table-t.result.now in
    let sound = whole (goal.at.returns c).After-table-t in
    let left : take (52 * t.options.decks - t.shoe.drawn) (drop t.shoe.drawn t.shoe.order) ≡ table_shoe t = part t.shoe.drawn (52 * t.options.decks) t.shoe.order (unbroken t sound).drawn in
    let hidden : take (length (bank_cards t) - 1) (drop 1 (bank_cards t)) ≡ drop 1 (bank_cards t) = take_all (length (bank_cards t) - 1) (drop 1 (bank_cards t)) (omega (arith, length-drop 1 (bank_cards t))) in
    let counted = c.counted.ensures ∙ rw (c.held_cards.ensures, left, hidden) in
    counted ∙ ap (λ (u : Table). counts_below (unseen u) 52) c.table-t.ensures.same
