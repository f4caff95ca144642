-- The pieces of bytes, each by its place: the blocks of a file, the calls of a block, and what the ten bytes of a call say.
use mathlib.Core.Path.{◌≡◌, refl, sym, ap, ap₂, ◌∙◌}
use mathlib.Core.Bool.{false, or-false}
use mathlib.Core.List.{List, [], ◌∷◌}
use Prim.Native.Nat.{ℕ, zero, suc, ◌+◌, ◌-◌, ◌*◌, ◌/◌, ◌<◌}
use native.Mathlib.Omega.{arith}
use lib.Dec.{eqb}
use lib.ListN.{length, take, drop, get_or, drop_of_length-le, length-drop}
use lib.Seq.{get_or-take, get_or-drop, drop-drop, drop-cons, length-take-le}
use Rattle.lists.specs.Tests.{any_of}
use Rattle.std.proofs.lemmas.List.{take-take}
use Rattle.std.proofs.lemmas.Slice.{between_is}
use Rattle.std.specs.Simd.{first_chunks}
use Rattle.file_spec.proofs.Pieces.{piece_at, pieces-length}
use Rattle.file_spec.specs.Block.{pieces}
use Rattle.file_spec.specs.CallBlock.{many_in, codes_in, code_kind, is_load_code, ends_in_load}

-- the library's chunks of so many bytes, and the pieces of the first bytes alone
pub chunks_are : (size many : ℕ) (bytes : List ℕ) → first_chunks size many bytes ≡ pieces size many bytes
unfolding pieces
chunks_are size zero bytes = refl
chunks_are size (suc many) bytes = ap (λ (l : List (List ℕ)). take size bytes ∷ l) (chunks_are size many (drop size bytes))

pieces_first : (many : ℕ) (bytes : List ℕ) → pieces 10 many (take (10 * many) bytes) ≡ pieces 10 many bytes
unfolding pieces
pieces_first zero bytes = refl
pieces_first (suc many) bytes =
    let here : take 10 (take (10 * suc many) bytes) ≡ take 10 bytes = take-take 10 (10 * suc many) bytes (omega arith) in
    let n : 10 * suc many - 10 ≡ 10 * many = omega arith in
    let behind : drop 10 (take (10 * suc many) bytes) ≡ take (10 * many) (drop 10 bytes) = sym (between_is bytes 10 (10 * suc many)) ∙ ap (λ (k : ℕ). take k (drop 10 bytes)) n in
    ap₂ ◌∷◌ here (ap (pieces 10 many) behind ∙ pieces_first many (drop 10 bytes))

pub codes_are : (block : List ℕ) (k : ℕ) → k ≡ 10 * many_in block → k < length block → first_chunks 10 (length (take k (drop 1 block)) / 10) (take k (drop 1 block)) ≡ codes_in block
unfolding codes_in
codes_are block k e inside =
    let long : length (take k (drop 1 block)) ≡ k = length-take-le k (drop 1 block) (omega (arith, length-drop 1 block)) in
    let many : length (take k (drop 1 block)) / 10 ≡ many_in block = omega arith in
    ap₂ (λ (m n : ℕ). first_chunks 10 m (take n (drop 1 block))) many e ∙ chunks_are 10 (many_in block) (take (10 * many_in block) (drop 1 block)) ∙ pieces_first (many_in block) (drop 1 block)

-- the ten bytes of the call in a place of its block
pub code_at : (block : List ℕ) (i : ℕ) → i < many_in block → get_or (codes_in block) i [] ≡ take 10 (drop (1 + 10 * i) block)
unfolding codes_in
code_at block i h = piece_at 10 (many_in block) (drop 1 block) i h ∙ ap (take 10) (drop-drop (10 * i) 1 block)

pub codes_many : (block : List ℕ) → length (codes_in block) ≡ many_in block
unfolding codes_in
codes_many block = pieces-length 10 (many_in block) (drop 1 block)

-- what ten bytes say, from the place at which they lie
pub code_kind_lem : (bytes : List ℕ) (at : ℕ) → code_kind (take 10 (drop at bytes)) ≡ get_or bytes at 0
code_kind_lem bytes at =
    let same : at + 0 ≡ at = omega arith in
    get_or-take 10 (drop at bytes) 0 0 (omega arith) ∙ get_or-drop at bytes 0 0 ∙ ap (λ (n : ℕ). get_or bytes n 0) same

pub load_at : (block : List ℕ) (i : ℕ) → i < many_in block → is_load_code (get_or (codes_in block) i []) ≡ eqb (get_or block (1 + 10 * i) 0) 17
load_at block i h = ap is_load_code (code_at block i h) ∙ ap (λ (k : ℕ). eqb k 17) (code_kind_lem block (1 + 10 * i))

-- the last call of a block that has some
pub ends_in_load_lem : (block : List ℕ) (m : ℕ) → many_in block ≡ m + 1 → ends_in_load block ≡ eqb (get_or block (1 + 10 * m) 0) 17
unfolding any_of
ends_in_load_lem block m e =
    let last : many_in block - 1 ≡ m = omega arith in
    let inside : m < length (codes_in block) = omega (arith, codes_many block) in
    let none : drop (suc m) (codes_in block) ≡ [] = drop_of_length-le (codes_in block) {i = suc m} (omega (arith, codes_many block)) in
    ap (λ (n : ℕ). any_of is_load_code (drop n (codes_in block))) last
    ∙ ap (any_of is_load_code) (drop-cons (codes_in block) m [] inside ∙ ap (λ (xs : List (List ℕ)). get_or (codes_in block) m [] ∷ xs) none)
    ∙ or-false (is_load_code (get_or (codes_in block) m []))
    ∙ load_at block m (omega arith)

pub ends_in-none : (block : List ℕ) → many_in block ≡ 0 → ends_in_load block ≡ false
unfolding codes_in pieces any_of
ends_in-none block e = rw e
