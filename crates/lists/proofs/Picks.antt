-- Bounds of a number that a test picks: what bounds both numbers bounds the one that is picked.
use mathlib.Core.Bool.{Bool, true, false, cond}
use Prim.Native.Nat.{ℕ, ◌≤◌}

pub cond_most : (b : Bool) {x y k : ℕ} → x ≤ k → y ≤ k → cond b x y ≤ k
cond_most true hx hy = hx
cond_most false hx hy = hy

pub cond_least : (b : Bool) {x y k : ℕ} → k ≤ x → k ≤ y → k ≤ cond b x y
cond_least true hx hy = hx
cond_least false hx hy = hy
