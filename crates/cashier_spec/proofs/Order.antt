-- A valid order fills a new shoe: it has 52 × decks cards, it is what the shoe's array begins with, and the array has its 416 places. For the opening
-- and load.
use mathlib.Core.Path.{◌≡◌, ◌∙◌}
use mathlib.Core.Bool.{true, and-eq-true_iff, ◌&&◌}
use mathlib.Core.List.{List}
use Prim.Native.Nat.{ℕ, ◌-◌, ◌*◌, ◌≤◌}
use native.Mathlib.Omega.{arith}
use lib.Dec.{eqb, ltb}
use lib.ListN.{length, take, replicate, length-append, length-replicate}
use lib.Seq.{take_at}
use borrow.Author.Tests.{eqb-true}
use Rattle.lists.specs.Tests.{all_of}
use Rattle.table.specs.Shoe.{valid_order, new_shoe}

module _ (decks : ℕ) (order : List ℕ) (valid : valid_order decks order ≡ true) where
  pub valid_length : length order ≡ 52 * decks
  unfolding valid_order
  valid_length =
      let (both, each-face) = (and-eq-true_iff (eqb (length order) (52 * decks) && all_of (λ card. ltb card 52) order) _).0 valid in
      let (long, cards) = (and-eq-true_iff (eqb (length order) (52 * decks)) _).0 both in
      eqb-true (length order) (52 * decks) long

  pub loaded : (begun : ℕ) → take (52 * decks) (new_shoe begun order).order ≡ order
  loaded begun = take_at order (replicate (416 - length order) 0) (52 * decks) valid_length

  pub loaded_length : (begun : ℕ) → 52 * decks ≤ 416 → length (new_shoe begun order).order ≡ 416
  loaded_length begun room = length-append order (replicate (416 - length order) 0) ∙ omega (arith, length-replicate {A = ℕ} (416 - length order) 0, valid_length)
