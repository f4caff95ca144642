-- A block that is filled from the front, zeros behind: what is laid behind its bytes, and what it is once it is sealed.
use mathlib.Core.Path.{◌≡◌, refl, sym, ap, ◌∙◌}
use mathlib.Core.List.{List, [], ◌∷◌, ◌++◌, append-nil}
use Prim.Native.Nat.{ℕ, zero, suc, ◌+◌, ◌-◌, ◌≤◌, min}
use native.Mathlib.Decide.{dec_le}
use native.Mathlib.Omega.{arith}
use lib.ListN.{length, take, drop, set, replicate, length-append, length-take, length-replicate, drop_of_length-le}
use lib.Seq.{paste, take-length, take-append_seam, take-append-add, drop-append-add, take_all, take_at, take-append-le, length-take-le}
use Rattle.lists.proofs.Stores.{drop-replicate}
use Rattle.lists.proofs.Takes.{take_clamped}
use Rattle.file_spec.specs.Block.{little_endian, weighed, content, padded, sealed}
use Rattle.file_spec.specs.Writer.{block_of}

-- bytes and the zeros behind them
abbrev filled : List ℕ → List ℕ
filled xs = xs ++ replicate (512 - length xs) 0

filled_more : (xs ys : List ℕ) → length xs + length ys ≤ 512 → paste (filled xs) (length xs) ys (length ys) ≡ filled (xs ++ ys)
filled_more xs ys h =
    let left : 512 - length xs - length ys ≡ 512 - length (xs ++ ys) = omega (arith, length-append xs ys) in
    rw (take-append_seam xs (replicate (512 - length xs) 0), take-length ys, drop-append-add xs (replicate (512 - length xs) 0) (length ys), drop-replicate {A = ℕ} (length ys) (512 - length xs) 0, left)

take-zeros : (k m : ℕ) → k ≤ m → take k (replicate m 0) ≡ replicate {A = ℕ} k 0
take-zeros zero m h = refl
take-zeros (suc k) zero h = absurd (omega arith)
take-zeros (suc k) (suc m) h = ap (λ (l : List ℕ). 0 ∷ l) (take-zeros k m (omega arith))

-- so many zeros behind the bytes that there are 508
first_508 : (xs : List ℕ) (m : ℕ) → length xs ≤ 508 → 508 ≤ length xs + m → take 508 (xs ++ replicate m 0) ≡ xs ++ replicate (508 - length xs) 0
first_508 xs m h k =
    let all : 508 ≡ length xs + (508 - length xs) = omega arith in
    ap (λ (n : ℕ). take n (xs ++ replicate m 0)) all ∙ take-append-add xs (replicate m 0) (508 - length xs) ∙ ap (λ (l : List ℕ). xs ++ l) (take-zeros (508 - length xs) m (omega arith))

length_508 : (xs : List ℕ) → length xs ≤ 508 → length (xs ++ replicate (508 - length xs) 0) ≡ 508
length_508 xs h = omega (arith, length-append xs (replicate (508 - length xs) 0), length-replicate {A = ℕ} (508 - length xs) 0)

-- a filled block seals to the block of its bytes
sealed-filled : (xs : List ℕ) → length xs ≤ 508 → sealed (content (filled xs)) ≡ sealed xs
unfolding sealed
sealed-filled xs h =
    let whole = xs ++ replicate (508 - length xs) 0 in
    let these : content (filled xs) ≡ whole = first_508 xs (512 - length xs) h (omega arith) in
    let same : padded 508 (content (filled xs)) ≡ padded 508 xs = ap (padded 508) these ∙ take_at whole (replicate 508 0) 508 (length_508 xs h) ∙ sym (first_508 xs 508 h (omega arith)) in
    ap (λ (l : List ℕ). l ++ little_endian 4 (weighed 0 l)) same

-- the check behind the first 508 bytes
pub sealed_here : (block check : List ℕ) → length block ≡ 512 → length check ≡ 4 → check ≡ little_endian 4 (weighed 0 (content block)) → paste block 508 check (length check) ≡ sealed (content block)
unfolding sealed
sealed_here block check full four e =
    let end : 508 + length check ≡ 512 = omega arith in
    let none : drop (508 + length check) block ≡ [] = drop_of_length-le block {i = 508 + length check} (omega arith) in
    let same : padded 508 (content block) ≡ content block = take_at (content block) (replicate 508 0) 508 (length-take-le 508 block (omega arith)) in
    rw (take-length check, none, append-nil, same, e)

-- a block of zeros
abbrev pub empty_block : List ℕ
empty_block = replicate 512 0

empty-filled : empty_block ≡ filled []
empty-filled = refl

one-filled : (many : ℕ) → set empty_block 0 many ≡ filled (many ∷ [])
one-filled many = refl

-- what lies behind the first 508 bytes is not in the block
sealed-first : (xs : List ℕ) → sealed (take 508 xs) ≡ sealed xs
unfolding sealed
sealed-first xs = ap (λ (l : List ℕ). l ++ little_endian 4 (weighed 0 l)) (go (dec_le (length xs) 508))
  where
    go : Dec (length xs ≤ 508) → padded 508 (take 508 xs) ≡ padded 508 xs
    go (yes few) = ap (padded 508) (take_all 508 xs few)
    go (no more) = take_at (take 508 xs) (replicate 508 0) 508 (length-take-le 508 xs (omega arith)) ∙ sym (take-append-le 508 xs (replicate 508 0) (omega arith))

pub head-filled : (head order : List ℕ) (n : ℕ) → length head ≡ 32 → n ≡ min (length order) 476
    → sealed (content (paste (paste empty_block 0 head 32) 32 (take n order) (length (take n order)))) ≡ sealed (head ++ order)
head-filled head order n e least =
    let part = take n order in
    let few : length part ≤ 476 = omega (arith, length-take n order) in
    let begun : paste empty_block 0 head 32 ≡ filled head = ap (λ (l : List ℕ). paste l 0 head 32) empty-filled ∙ ap (paste (filled []) 0 head) (sym e) ∙ filled_more [] head (omega arith) in
    let whole : paste (filled head) 32 part (length part) ≡ filled (head ++ part) = ap (λ (k : ℕ). paste (filled head) k part (length part)) (sym e) ∙ filled_more head part (omega arith) in
    let clamped : part ≡ take 476 order = take_clamped order 476 n (omega arith) in
    let first : head ++ take 476 order ≡ take 508 (head ++ order) = sym (ap (λ (k : ℕ). take k (head ++ order)) (room_for (length head) e) ∙ take-append-add head order 476) in
    ap (λ (l : List ℕ). sealed (content l)) (ap (λ (l : List ℕ). paste l 32 part (length part)) begun ∙ whole)
    ∙ sealed-filled (head ++ part) (omega (arith, length-append head part))
    ∙ ap (λ (l : List ℕ). sealed (head ++ l)) clamped
    ∙ ap sealed first
    ∙ sealed-first (head ++ order)
  where
    room_for : (k : ℕ) → k ≡ 32 → 508 ≡ k + 476
    room_for k h = omega arith

pub calls-filled : (many : ℕ) (bytes : List ℕ) → length bytes ≤ 500 → sealed (content (paste (set empty_block 0 many) 1 bytes (length bytes))) ≡ block_of many bytes
calls-filled many bytes h =
    ap (λ (l : List ℕ). sealed (content l)) (ap (λ (l : List ℕ). paste l 1 bytes (length bytes)) (one-filled many) ∙ filled_more (many ∷ []) bytes (omega arith)) ∙ sealed-filled (many ∷ bytes) (omega arith)
