-- Numbers in little-endian bytes, as the library reads them; the weighed sum, one byte more.
use mathlib.Core.Path.{◌≡◌, refl, sym, ap, ◌∙◌}
use mathlib.Core.List.{List, [], ◌∷◌, ◌++◌}
use Prim.Native.Nat.{ℕ, zero, suc, ◌+◌, ◌*◌, ◌≤◌, ◌<◌}
use native.Mathlib.Nat.{mul-le-mul}
use native.Mathlib.Numerals.{add-one}
use native.Mathlib.Omega.{arith}
use lib.ListN.{length, take, drop, get_or}
use lib.Seq.{take-suc, drop-cons, length-take-le}
use Rattle.std.specs.Int.{w16, w32, w64, from_le_bytes}
use Rattle.file_spec.specs.Block.{number_of, weighed}

-- so many bytes from a place on, one by one
abbrev pub bytes_from : ℕ → ℕ → List ℕ → List ℕ
bytes_from zero at l = []
bytes_from (suc n) at l = get_or l at 0 ∷ bytes_from n (at + 1) l

part_is : (n at : ℕ) (l : List ℕ) → at + n ≤ length l → take n (drop at l) ≡ bytes_from n at l
part_is zero at l h = refl
part_is (suc n) at l h =
    let inside : at < length l = omega arith in
    rw (drop-cons l at 0) (ap (λ (xs : List ℕ). get_or l at 0 ∷ xs) (rw (← add-one) (part_is n (at + 1) l (omega arith))))

pub number_of_2 : (l : List ℕ) (at : ℕ) → at + 2 ≤ length l → number_of (take 2 (drop at l)) ≡ from_le_bytes w16 (bytes_from 2 at l)
unfolding number_of
number_of_2 l at h = rw (part_is 2 at l h) (omega arith)

pub number_of_4 : (l : List ℕ) (at : ℕ) → at + 4 ≤ length l → number_of (take 4 (drop at l)) ≡ from_le_bytes w32 (bytes_from 4 at l)
unfolding number_of
number_of_4 l at h = rw (part_is 4 at l h) (omega arith)

pub number_of_8 : (l : List ℕ) (at : ℕ) → at + 8 ≤ length l → number_of (take 8 (drop at l)) ≡ from_le_bytes w64 (bytes_from 8 at l)
unfolding number_of
number_of_8 l at h = rw (part_is 8 at l h) (omega arith)

weighed-append : (place : ℕ) (xs ys : List ℕ) → weighed place (xs ++ ys) ≡ weighed place xs + weighed (place + length xs) ys
unfolding weighed
weighed-append place [] ys = let same : place ≡ place + 0 = omega arith in omega (arith, ap (λ (k : ℕ). weighed k ys) same)
weighed-append place (x ∷ xs) ys =
    let same : suc place + length xs ≡ place + suc (length xs) = omega arith in
    omega (arith, weighed-append (suc place) xs ys, ap (λ (k : ℕ). weighed k ys) same)

weighed-one : (place i x : ℕ) → place ≡ i → weighed place (x ∷ []) ≡ x * (i + 1)
unfolding weighed
weighed-one place i x e = rw e (omega arith)

-- the first i + 1 bytes: the first i, and the one at i
pub weighed-next : (l : List ℕ) (i : ℕ) → i < length l → weighed 0 (take i l) + get_or l i 0 * (i + 1) ≡ weighed 0 (take (i + 1) l)
weighed-next l i h =
    let place : 0 + length (take i l) ≡ i = omega (arith, length-take-le i l (omega arith)) in
    sym (ap (weighed 0) (ap (λ (n : ℕ). take n l) (add-one i) ∙ take-suc l i 0 h)
    ∙ weighed-append 0 (take i l) (get_or l i 0 ∷ [])
    ∙ ap (λ (n : ℕ). weighed 0 (take i l) + n) (weighed-one (0 + length (take i l)) i (get_or l i 0) place))

-- a byte times a place of a block
pub term_most : (b i : ℕ) → b < 256 → i < 508 → b * (i + 1) ≤ 129540
term_most b i h k = let a : b ≤ 255 = omega arith in let p : i + 1 ≤ 508 = omega arith in mul-le-mul a p
