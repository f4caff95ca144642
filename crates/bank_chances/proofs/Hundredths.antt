-- A share in two steps of a hundred.
use mathlib.Core.Path.{◌≡◌, sym, ◌∙◌, ap}
use Prim.Native.Nat.{ℕ, ◌+◌, ◌*◌, ◌/◌, ◌%◌, ◌≤◌, ◌<◌}
use native.Mathlib.Nat.{mul_assoc, mul_comm, div-add-mod', mul-add-div_right, div-le_of_le-mul, div-le_self, mod-lt}
use native.Mathlib.Omega.{arith}

module _ (x all : ℕ) (some : 0 < all) where
  -- a hundred times x: what a hundred times the whole part and the rest give
  pub hundred_times : x / all * 100 + x % all * 100 / all ≡ x * 100 / all
  hundred_times =
      let q = x / all in
      let r = x % all in
      let parts : q * 100 * all + r * 100 ≡ x * 100 = omega (arith, ap (λ (y : ℕ). y * 100) (div-add-mod' x all), mul_assoc q 100 all, mul_assoc q all 100, ap (λ (y : ℕ). q * y) (mul_comm 100 all)) in
      sym (mul-add-div_right some (q * 100) (r * 100)) ∙ ap (λ (y : ℕ). y / all) parts

  pub rest_below : x % all < all
  rest_below = mod-lt x some

  pub whole-most : x ≤ all * 100 → x / all ≤ 100
  whole-most h = div-le_of_le-mul all h

  pub last_most : x % all * 100 / all ≤ x % all * 100
  last_most = div-le_self (x % all * 100) all
