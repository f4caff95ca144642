-- The 27 places: three to a seat, so that seat and position tell the place and the place tells them.
use mathlib.Core.Path.{◌≡◌, ◌∙◌}
use Prim.Native.Nat.{ℕ, ◌/◌, ◌%◌, ◌<◌}
use native.Mathlib.Omega.{arith}
use lib.ListN.{length, get_or, length-set}
use lib.Seq.{get_or-set_same, get_or-set_other}
use Rattle.host_spec.specs.declared.GuestCard.{GuestCard}
use Rattle.host_spec.specs.declared.Hosted.{Hosted}
use Rattle.host_spec.specs.Cards.{no_card, place_at, with_card}

pub seat_of : (i p : ℕ) → p < 3 → place_at i p / 3 ≡ i
seat_of i p h = omega arith

pub position_of : (i p : ℕ) → p < 3 → place_at i p % 3 ≡ p
position_of i p h = omega arith

pub back_to : (k : ℕ) → place_at (k / 3) (k % 3) ≡ k
back_to k = omega arith

pub other_place : (i p j q : ℕ) → p < 3 → q < 3 → ((i ≡ j) × (p ≡ q) → ⊥) → place_at i p ≡ place_at j q → ⊥
other_place i p j q hp hq other same = let seats : i ≡ j = omega arith in let positions : p ≡ q = omega arith in other (seats, positions)

-- one card put elsewhere
module _ (h : Hosted) (k : ℕ) (g : GuestCard) (long : length h.cards ≡ 27) where
  pub put_there : k < 27 → get_or (with_card h k g).cards k no_card ≡ g
  put_there inside = get_or-set_same h.cards k g no_card (omega arith)

  pub put_elsewhere : (j : ℕ) → (j ≡ k → ⊥) → get_or (with_card h k g).cards j no_card ≡ get_or h.cards j no_card
  put_elsewhere j other = get_or-set_other h.cards k j g no_card other

  pub put-length : length (with_card h k g).cards ≡ 27
  put-length = length-set h.cards k g ∙ long
