-- The cards left behind a place of the order: how many they are, and which.
use mathlib.Core.Path.{◌≡◌, ◌∙◌}
use mathlib.Core.List.{List}
use Prim.Native.Nat.{ℕ, ◌+◌, ◌-◌, ◌≤◌, ◌<◌}
use native.Mathlib.Omega.{arith}
use lib.ListN.{length, take, drop, get_or, length-drop}
use lib.Seq.{length-take-le, get_or-take, get_or-drop}

module _ (order : List ℕ) (all : ℕ) (within : all ≤ length order) (drawn : ℕ) where
  pub left-length : length (drop drawn (take all order)) + drawn ≡ all + (drawn - all)
  left-length = omega (arith, length-drop drawn (take all order), length-take-le all order within)

  pub left_at : (i : ℕ) → drawn + i < all → get_or (drop drawn (take all order)) i 0 ≡ get_or order (drawn + i) 0
  left_at i h = get_or-drop drawn (take all order) i 0 ∙ get_or-take all order (drawn + i) 0 h
