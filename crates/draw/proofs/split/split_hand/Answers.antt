-- The kept card first and the drawn one behind it; the kept card says where the hand comes from.
use mathlib.Core.Path.{sym, ◌∙◌}
use Rattle.draw.proofs.split.split_hand.Goals as goal

pub returns-then-is_ace : goal.returns-then-is_ace
returns-then-is_ace c =
    let two = c in
    simp (two.with_card-hand.ensures, two.with_card-one.ensures, two.empty_hand-none.ensures, sym c.is_ace.ensures ∙ c.if-is_ace.true)

pub returns : goal.returns
returns c =
    let two = c in
    simp (two.with_card-hand.ensures, two.with_card-one.ensures, two.empty_hand-none.ensures, sym c.is_ace.ensures ∙ c.if-is_ace.false)
