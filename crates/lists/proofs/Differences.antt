-- Whole numbers as differences of naturals: `Diff z p m` says that z is p − m. Sums and differences of money are then linear arithmetic.
use mathlib.Core.Path.{◌≡◌, sym, ◌∙◌, ap, ap₂}
use Prim.Native.Nat.{ℕ, ◌+◌}
use lib.IntN.{ℤ, pos, ◌+ℤ◌, ◌-ℤ◌, +ℤ_assoc, +ℤ_comm, +ℤ_idr, +ℤ-neg_ℤ_cancel, -ℤ-+ℤ_cancel}

pub record Diff (z : ℤ) (p m : ℕ) : Type 0 where
  pub is : z +ℤ pos m ≡ pos p

pub diff_pos : (n : ℕ) → Diff (pos n) n 0
diff_pos n = record { is = +ℤ_idr (pos n) }

-- sums in another order
left_comm : (a b c : ℤ) → a +ℤ (b +ℤ c) ≡ b +ℤ (a +ℤ c)
left_comm a b c = sym (+ℤ_assoc a b c) ∙ ap (λ (x : ℤ). x +ℤ c) (+ℤ_comm a b) ∙ +ℤ_assoc b a c

exchange : (a b c d : ℤ) → (a +ℤ b) +ℤ (c +ℤ d) ≡ (a +ℤ c) +ℤ (b +ℤ d)
exchange a b c d = +ℤ_assoc a b (c +ℤ d) ∙ ap (λ (x : ℤ). a +ℤ x) (left_comm b c d) ∙ sym (+ℤ_assoc a c (b +ℤ d))

pub diff_add : {z y : ℤ} {p m q n : ℕ} → Diff z p m → Diff y q n → Diff (z +ℤ y) (p + q) (m + n)
diff_add {z} {y} {p} {m} {q} {n} e f = record { is = exchange z y (pos m) (pos n) ∙ ap₂ (λ (a b : ℤ). a +ℤ b) e.is f.is }

pub diff_sub : {z y : ℤ} {p m q n : ℕ} → Diff z p m → Diff y q n → Diff (z -ℤ y) (p + n) (m + q)
diff_sub {z} {y} {p} {m} {q} {n} e f =
    record {
      is =
          ap (λ (x : ℤ). z -ℤ y +ℤ (pos m +ℤ x)) (sym f.is)
          ∙ ap (λ (x : ℤ). z -ℤ y +ℤ x) (left_comm (pos m) y (pos n))
          ∙ sym (+ℤ_assoc (z -ℤ y) y (pos m +ℤ pos n))
          ∙ ap (λ (x : ℤ). x +ℤ (pos m +ℤ pos n)) (-ℤ-+ℤ_cancel z y)
          ∙ sym (+ℤ_assoc z (pos m) (pos n))
          ∙ ap (λ (x : ℤ). x +ℤ pos n) e.is;
    }

-- a difference comes to a natural where the two naturals say so
pub diff_is : {z : ℤ} {p m : ℕ} → Diff z p m → (x : ℕ) → p ≡ x + m → pos x ≡ z
diff_is {z} {p} {m} e x h =
    sym (+ℤ-neg_ℤ_cancel (pos x) (pos m)) ∙ ap (λ (y : ℤ). y -ℤ pos m) (ap pos (sym h) ∙ sym e.is) ∙ +ℤ-neg_ℤ_cancel z (pos m)
