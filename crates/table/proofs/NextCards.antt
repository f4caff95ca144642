-- The next cards of the shoe, by their places in the order.
use mathlib.Core.Path.{◌≡◌, refl, ◌∙◌}
use mathlib.Core.List.{[], ◌∷◌}
use Prim.Native.Nat.{ℕ, ◌+◌, ◌*◌, ◌≤◌, ◌<◌}
use native.Mathlib.Omega.{arith}
use lib.ListN.{length, take, get_or, length-take, length-drop}
use lib.Seq.{get_or-take, get_or-drop}
use Rattle.lists.proofs.Takes.{take-one, take-two}
use Rattle.options.proofs.Facts.{in_range_facts}
use Rattle.table.specs.declared.Table.{Table}
use Rattle.table.specs.Table.{table_order, table_shoe}
use Rattle.table.specs.Shape.{Shaped}
use Rattle.table.specs.Aids.Sound.{Sound}

-- a card of the loaded order
pub card_at_lem : (t : Table) (i : ℕ) → i < 52 * t.options.decks → get_or (table_order t) i 0 ≡ get_or t.shoe.order i 0
card_at_lem t i h = get_or-take (52 * t.options.decks) t.shoe.order i 0 h

module _ (t : Table) (shaped : Shaped t) (sound : Sound t) where
  shoe-length : length (table_shoe t) + t.shoe.drawn ≡ 52 * t.options.decks
  shoe-length = simp (length-drop, length-take, shaped.order) (omega (arith, sound.drawn, (in_range_facts t.options sound.options).decks_most))

  next-at : (n : ℕ) → t.shoe.drawn + n < 52 * t.options.decks → get_or (table_shoe t) n 0 ≡ get_or t.shoe.order (t.shoe.drawn + n) 0
  next-at n h = get_or-drop t.shoe.drawn (table_order t) n 0 ∙ card_at_lem t (t.shoe.drawn + n) h

  pub next_one : t.shoe.drawn + 1 ≤ 52 * t.options.decks → take 1 (table_shoe t) ≡ get_or t.shoe.order (t.shoe.drawn + 0) 0 ∷ []
  next_one h = take-one (table_shoe t) 1 0 refl (omega (arith, shoe-length)) ∙ rw (next-at 0 (omega arith))

  pub next-two : t.shoe.drawn + 2 ≤ 52 * t.options.decks
      → take 2 (table_shoe t) ≡ get_or t.shoe.order (t.shoe.drawn + 0) 0 ∷ get_or t.shoe.order (t.shoe.drawn + 1) 0 ∷ []
  next-two h = take-two (table_shoe t) 2 0 refl (omega (arith, shoe-length)) ∙ rw (next-at 0 (omega arith), next-at 1 (omega arith))
