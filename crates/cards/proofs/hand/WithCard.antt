-- A hand with one card more: its cards, their number and its array.
use mathlib.Core.Path.{◌≡◌, ◌∙◌}
use mathlib.Core.List.{[], ◌∷◌, ◌++◌}
use Prim.Native.Nat.{ℕ, ◌+◌, ◌<◌}
use native.Mathlib.Numerals.{add-one}
use native.Mathlib.Omega.{arith}
use lib.ListN.{length, length-set}
use lib.Seq.{take-suc-set}
use borrow.Author.Tests.{lt-ltb}
use Rattle.cards.specs.Hand.{cards_of, with_card}
use Rattle.cards.specs.declared.hand.Hand.{Hand}

pub with_card-cards : (h : Hand) (card : ℕ) → length h.cards ≡ 20 → h.count < 20 → cards_of (with_card h card) ≡ cards_of h ++ (card ∷ [])
unfolding with_card
with_card-cards h card full room = simp (lt-ltb h.count 20 room) (rw (add-one, take-suc-set h.cards h.count card (omega arith)))

pub with_card-count : (h : Hand) (card : ℕ) → h.count < 20 → (with_card h card).count ≡ h.count + 1
unfolding with_card
with_card-count h card room = simp (lt-ltb h.count 20 room)

pub with_card_full : (h : Hand) (card : ℕ) → length h.cards ≡ 20 → h.count < 20 → length (with_card h card).cards ≡ 20
unfolding with_card
with_card_full h card full room = simp (lt-ltb h.count 20 room) (length-set h.cards h.count card ∙ full)
