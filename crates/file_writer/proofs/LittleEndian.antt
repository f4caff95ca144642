-- The library's bytes of a number are the definition's.
use mathlib.Core.Path.{◌≡◌, refl, ap₂}
use mathlib.Core.List.{◌∷◌}
use Prim.Native.Nat.{ℕ}
use native.Mathlib.Omega.{arith}
use Rattle.std.specs.Int.{w16, w32, w64, to_le_bytes}
use Rattle.file_spec.specs.Block.{little_endian}

pub bytes_2 : (n : ℕ) → to_le_bytes w16 n ≡ little_endian 2 n
unfolding little_endian
bytes_2 n = ap₂ ◌∷◌ (omega arith) (ap₂ ◌∷◌ (omega arith) refl)

pub bytes_4 : (n : ℕ) → to_le_bytes w32 n ≡ little_endian 4 n
unfolding little_endian
bytes_4 n = ap₂ ◌∷◌ (omega arith) (ap₂ ◌∷◌ (omega arith) (ap₂ ◌∷◌ (omega arith) (ap₂ ◌∷◌ (omega arith) refl)))

pub bytes_8 : (n : ℕ) → to_le_bytes w64 n ≡ little_endian 8 n
unfolding little_endian
bytes_8 n =
    ap₂ ◌∷◌ (omega arith) (ap₂ ◌∷◌ (omega arith) (ap₂ ◌∷◌ (omega arith) (ap₂ ◌∷◌ (omega arith)
    (ap₂ ◌∷◌ (omega arith) (ap₂ ◌∷◌ (omega arith) (ap₂ ◌∷◌ (omega arith) (ap₂ ◌∷◌ (omega arith) refl)))))))
