-- Pieces of as many bytes each: those of a list put together of such are these, and put together they are the list.
use mathlib.Core.Path.{◌≡◌, refl, ◌∙◌, ap, ap₂}
use mathlib.Core.Bool.{Bool, true}
use mathlib.Core.List.{List, [], ◌∷◌, ◌++◌, append_assoc}
use Prim.Native.Nat.{ℕ, zero, suc, ◌+◌, ◌*◌, ◌≤◌, ◌<◌}
use native.Mathlib.Omega.{arith}
use lib.Dec.{eqb}
use lib.ListN.{length, take, drop, get_or, length-append, length-drop}
use lib.Seq.{take_at, drop_at, take-add, length-take-le, drop-drop}
use borrow.Author.Tests.{eqb-true, eq-eqb}
use Rattle.lists.specs.Tests.{all_of}
use Rattle.lists.specs.Flat.{flat}
use Rattle.file_spec.specs.Block.{Bytes, is_byte, pieces}
use Rattle.file_spec.proofs.Alls.{all_cons, cons_all, all_append, all-part, all_rest}

-- each has so many bytes; each is a list of bytes
abbrev pub is_sized : ℕ → List ℕ → Bool
is_sized size piece = eqb (length piece) size

abbrev pub Sized : ℕ → List (List ℕ) → Type 0
Sized size all = all_of (is_sized size) all ≡ true

abbrev pub AllBytes : List (List ℕ) → Type 0
AllBytes all = all_of (all_of is_byte) all ≡ true

-- one behind the other
abbrev pub joined : List (List ℕ) → List ℕ
joined all = flat (λ piece. piece) all

pub joined_length : (size : ℕ) (all : List (List ℕ)) → Sized size all → length (joined all) ≡ size * length all
unfolding flat
joined_length size [] h = omega arith
joined_length size (piece ∷ all) h =
    let (one, more) = all_cons (is_sized size) piece all h in
    omega (arith, length-append piece (joined all), eqb-true (length piece) size one, joined_length size all more)

pub joined_bytes : (all : List (List ℕ)) → AllBytes all → Bytes (joined all)
unfolding flat all_of
joined_bytes [] h = refl
joined_bytes (piece ∷ all) h = let (one, more) = all_cons (all_of is_byte) piece all h in all_append is_byte piece (joined all) one (joined_bytes all more)

-- the pieces of what was put together, whatever stands behind it
pub pieces-joined : (size : ℕ) (all : List (List ℕ)) (behind : List ℕ) → Sized size all → pieces size (length all) (joined all ++ behind) ≡ all
unfolding pieces flat
pieces-joined size [] behind h = refl
pieces-joined size (piece ∷ all) behind h =
    let (one, more) = all_cons (is_sized size) piece all h in
    let len : length piece ≡ size = eqb-true (length piece) size one in
    rw (append_assoc piece (joined all) behind)
    (ap₂ ◌∷◌ (take_at piece (joined all ++ behind) size len) (ap (pieces size (length all)) (drop_at piece (joined all ++ behind) size len) ∙ pieces-joined size all behind more))

-- put together, the pieces are the list's first bytes
pub joined-pieces : (size many : ℕ) (bytes : List ℕ) → joined (pieces size many bytes) ≡ take (size * many) bytes
unfolding pieces flat
joined-pieces size zero bytes = let none : size * 0 ≡ 0 = omega arith in rw none
joined-pieces size (suc many) bytes =
    let more : size * suc many ≡ size + size * many = omega arith in
    rw (more, take-add) (ap (λ (rest : List ℕ). take size bytes ++ rest) (joined-pieces size many (drop size bytes)))

pub pieces-length : (size many : ℕ) (bytes : List ℕ) → length (pieces size many bytes) ≡ many
unfolding pieces
pieces-length size zero bytes = refl
pieces-length size (suc many) bytes = ap suc (pieces-length size many (drop size bytes))

pub pieces_sized : (size many : ℕ) (bytes : List ℕ) → size * many ≤ length bytes → Sized size (pieces size many bytes)
unfolding pieces all_of
pieces_sized size zero bytes h = refl
pieces_sized size (suc many) bytes h =
    cons_all (is_sized size) (take size bytes) (pieces size many (drop size bytes))
    (eq-eqb (length (take size bytes)) size (length-take-le size bytes (omega arith)))
    (pieces_sized size many (drop size bytes) (omega (arith, length-drop size bytes)))

pub pieces_bytes : (size many : ℕ) (bytes : List ℕ) → Bytes bytes → AllBytes (pieces size many bytes)
unfolding pieces all_of
pieces_bytes size zero bytes h = refl
pieces_bytes size (suc many) bytes h =
    cons_all (all_of is_byte) (take size bytes) (pieces size many (drop size bytes)) (all-part is_byte size bytes h) (pieces_bytes size many (drop size bytes) (all_rest is_byte size bytes h))

-- the piece of a number
pub piece_at : (size many : ℕ) (bytes : List ℕ) (k : ℕ) → k < many → get_or (pieces size many bytes) k [] ≡ take size (drop (size * k) bytes)
unfolding pieces
piece_at size zero bytes k h = absurd (omega arith)
piece_at size (suc many) bytes zero h = let none : size * 0 ≡ 0 = omega arith in rw none
piece_at size (suc many) bytes (suc k) h =
    let next : size + size * k ≡ size * suc k = omega arith in
    piece_at size many (drop size bytes) k (omega arith) ∙ ap (take size) (drop-drop (size * k) size bytes ∙ ap (λ (m : ℕ). drop m bytes) next)
