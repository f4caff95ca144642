-- Numbers in bytes, the lowest first: written and read again they are the same, and so are bytes that are read and written again.
use mathlib.Core.Path.{◌≡◌, refl, ◌∙◌, ap, ap₂}
use mathlib.Core.Bool.{◌&&◌, and-eq-true_iff}
use mathlib.Core.List.{List, [], ◌∷◌}
use Prim.Native.Nat.{ℕ, zero, suc, ◌+◌, ◌*◌, ◌/◌, ◌%◌, ◌^◌, ◌<◌}
use native.Mathlib.Omega.{arith}
use lib.Dec.{ltb}
use lib.ListN.{length}
use borrow.Author.Tests.{ltb-true, lt-ltb}
use Rattle.lists.specs.Tests.{all_of}
use Rattle.file_spec.specs.Block.{is_byte, Bytes, little_endian, number_of}

pub le_length : (k n : ℕ) → length (little_endian k n) ≡ k
unfolding little_endian
le_length zero n = refl
le_length (suc k) n = ap suc (le_length k (n / 256))

pub le_bytes : (k n : ℕ) → Bytes (little_endian k n)
unfolding little_endian all_of
le_bytes zero n = refl
le_bytes (suc k) n = ap₂ ◌&&◌ (lt-ltb (n % 256) 256 (omega arith)) (le_bytes k (n / 256))

-- a number that fits is read as it was written
pub le_read : (k n : ℕ) → n < 256 ^ k → number_of (little_endian k n) ≡ n
unfolding little_endian number_of
le_read zero n h = omega arith
le_read (suc k) n h = let rest : number_of (little_endian k (n / 256)) ≡ n / 256 = le_read k (n / 256) (omega arith) in omega arith

-- bytes that are read are written as they were
pub le_write : (bytes : List ℕ) → Bytes bytes → little_endian (length bytes) (number_of bytes) ≡ bytes
unfolding little_endian number_of all_of
le_write [] h = refl
le_write (b ∷ bytes) h =
    let (one, more) = (and-eq-true_iff (ltb b 256) (all_of is_byte bytes)).0 h in
    let small : b < 256 = ltb-true b 256 one in
    let low : (b + 256 * number_of bytes) % 256 ≡ b = omega arith in
    let high : (b + 256 * number_of bytes) / 256 ≡ number_of bytes = omega arith in
    ap₂ ◌∷◌ low (ap (little_endian (length bytes)) high ∙ le_write bytes more)
