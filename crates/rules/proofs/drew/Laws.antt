-- A seat has drawn, doubled or split with a second hand or with a hand that has not two cards; a hand that keeps its cards changes nothing of it.
use mathlib.Core.Path.{◌≡◌}
use mathlib.Core.Bool.{Bool, true, not, or-true}
use mathlib.Core.List.{List}
use Prim.Native.Nat.{ℕ, ◌<◌}
use lib.ListN.{length, get_or, set, length-set}
use borrow.Author.Tests.{lt-ltb, ne_eqb}
use Rattle.lists.proofs.Tests.{any_set, any_set_or}
use Rattle.rules.specs.SeatHand.{Played, has_two_cards}
use Rattle.rules.specs.Drew.{seat_drew}

pub drew_hands : (hands : List Played) → 1 < length hands → seat_drew hands ≡ true
unfolding seat_drew
drew_hands hands more = simp (lt-ltb 1 (length hands) more)

-- another hand at a place
abbrev drawn : Played → Bool
drawn h = not (has_two_cards h)

module _ (hands : List Played) (p : ℕ) (h missing : Played) where
  pub drew_cards : p < length hands → (length h.cards ≡ 2 → ⊥) → seat_drew (set hands p h) ≡ true
  unfolding seat_drew has_two_cards
  drew_cards here other = simp (any_set_or drawn hands p h missing true here (rw (ne_eqb (length h.cards) 2 other)), or-true)

  pub drew_same : h.cards ≡ (get_or hands p missing).cards → seat_drew (set hands p h) ≡ seat_drew hands
  unfolding seat_drew has_two_cards
  drew_same same = simp (length-set, any_set drawn hands p h missing (rw same))
