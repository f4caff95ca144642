-- A block and its check. A sealed block checks; one that checks is what its content is sealed to; and where one byte of it is altered, it no longer checks: the sum moves by a multiple of
-- the byte's place, or the check by its digit, and never both.
use mathlib.Core.Path.{◌≡◌, refl, sym, ◌∙◌, ap, ap₂}
use mathlib.Core.Bool.{true, and-eq-true_iff}
use mathlib.Core.List.{List, [], ◌∷◌, ◌++◌}
use Prim.Native.Nat.{ℕ, zero, suc, ◌+◌, ◌-◌, ◌*◌, ◌^◌, ◌≤◌, ◌<◌}
use native.Mathlib.Decide.{dec_le}
use native.Mathlib.Nat.{mul-le-mul, eq_of_mul-eq-mul_right}
use native.Mathlib.Omega.{arith}
use lib.Dec.{ltb}
use lib.ListN.{length, take, drop, get_or, set, replicate, length-append, length-drop, length-set, length-replicate, take-append-drop}
use lib.Seq.{length-take-le, take_all, take_at, drop_at, drop-set-lt, take-set-le, take-set-lt, drop-set-add, get_or-set_same, get_or-drop, get_or-take}
use borrow.Author.Tests.{ltb-true, lt-ltb, eqb-true, eq-eqb}
use Rattle.lists.specs.Tests.{all_of}
use Rattle.file_spec.specs.Block.{is_byte, Bytes, little_endian, number_of, weighed, content, checks, padded, sealed}
use Rattle.file_spec.proofs.Alls.{all_append, all-part, all_rest, all_replicate, all_changed}
use Rattle.file_spec.proofs.Numbers.{le_length, le_bytes, le_read, le_write}

-- the sum of up to 508 bytes fits into four
weighed-most : (place : ℕ) (bytes : List ℕ) → Bytes bytes → place + length bytes ≤ 508 → weighed place bytes ≤ 129540 * length bytes
unfolding weighed all_of
weighed-most place [] h room = omega arith
weighed-most place (b ∷ bytes) h room =
    let (one, more) = (and-eq-true_iff (ltb b 256) (all_of is_byte bytes)).0 h in
    let small : b ≤ 255 = omega (arith, ltb-true b 256 one) in
    let near : place + 1 ≤ 508 = omega arith in
    let here : b * (place + 1) ≤ 255 * 508 = mul-le-mul small near in
    omega (arith, here, weighed-most (suc place) bytes more (omega arith))

weighed-fits : (bytes : List ℕ) → Bytes bytes → length bytes ≡ 508 → weighed 0 bytes < 256 ^ 4
weighed-fits bytes h len = omega (arith, weighed-most 0 bytes h (omega arith))

-- so many bytes, with zeros behind them
pub padded-length : (many : ℕ) (bytes : List ℕ) → length (padded many bytes) ≡ many
padded-length many bytes = length-take-le many (bytes ++ replicate many 0) (omega (arith, length-append bytes (replicate many 0), length-replicate {A = ℕ} many 0))

pub padded_bytes : (many : ℕ) (bytes : List ℕ) → Bytes bytes → Bytes (padded many bytes)
padded_bytes many bytes h = all-part is_byte many (bytes ++ replicate many 0) (all_append is_byte bytes (replicate many 0) h (all_replicate is_byte many 0 refl))

pub padded-whole : (bytes : List ℕ) (many : ℕ) → length bytes ≡ many → padded many bytes ≡ bytes
padded-whole bytes many len = take_at bytes (replicate many 0) many len

-- a sealed block: 512 bytes, its content, its check
pub sealed-length : (bytes : List ℕ) → length (sealed bytes) ≡ 512
unfolding sealed
sealed-length bytes = omega (arith, length-append (padded 508 bytes) (little_endian 4 (weighed 0 (padded 508 bytes))), padded-length 508 bytes, le_length 4 (weighed 0 (padded 508 bytes)))

pub sealed-content : (bytes : List ℕ) → content (sealed bytes) ≡ padded 508 bytes
unfolding sealed
sealed-content bytes = take_at (padded 508 bytes) (little_endian 4 (weighed 0 (padded 508 bytes))) 508 (padded-length 508 bytes)

pub sealed_bytes : (bytes : List ℕ) → Bytes bytes → Bytes (sealed bytes)
unfolding sealed
sealed_bytes bytes h = all_append is_byte (padded 508 bytes) (little_endian 4 (weighed 0 (padded 508 bytes))) (padded_bytes 508 bytes h) (le_bytes 4 (weighed 0 (padded 508 bytes)))

sealed_check : (bytes : List ℕ) → take 4 (drop 508 (sealed bytes)) ≡ little_endian 4 (weighed 0 (padded 508 bytes))
unfolding sealed
sealed_check bytes =
    ap (take 4) (drop_at (padded 508 bytes) (little_endian 4 (weighed 0 (padded 508 bytes))) 508 (padded-length 508 bytes))
    ∙ take_all 4 (little_endian 4 (weighed 0 (padded 508 bytes))) (omega (arith, le_length 4 (weighed 0 (padded 508 bytes))))

pub sealed-checks : (bytes : List ℕ) → Bytes bytes → checks (sealed bytes) ≡ true
sealed-checks bytes h =
    eq-eqb (number_of (take 4 (drop 508 (sealed bytes)))) (weighed 0 (content (sealed bytes)))
    (ap number_of (sealed_check bytes)
    ∙ le_read 4 (weighed 0 (padded 508 bytes)) (weighed-fits (padded 508 bytes) (padded_bytes 508 bytes h) (padded-length 508 bytes))
    ∙ ap (weighed 0) (sym (sealed-content bytes)))

-- a block that checks is its content, sealed
pub checked_sealed : (block : List ℕ) → Bytes block → length block ≡ 512 → checks block ≡ true → block ≡ sealed (content block)
unfolding sealed
checked_sealed block h len ok =
    let four : length (drop 508 block) ≡ 4 = omega (arith, length-drop 508 block) in
    let tail : take 4 (drop 508 block) ≡ drop 508 block = take_all 4 (drop 508 block) (omega (arith, four)) in
    let sum : number_of (drop 508 block) ≡ weighed 0 (content block) = ap number_of (sym tail) ∙ eqb-true (number_of (take 4 (drop 508 block))) (weighed 0 (content block)) ok in
    let whole : padded 508 (content block) ≡ content block = padded-whole (content block) 508 (length-take-le 508 block (omega arith)) in
    sym (take-append-drop 508 block)
    ∙ ap (λ (bytes : List ℕ). content block ++ bytes)
    (sym (le_write (drop 508 block) (all_rest is_byte 508 block h))
    ∙ ap₂ little_endian four sum)
    ∙ ap (λ (bytes : List ℕ). bytes ++ little_endian 4 (weighed 0 bytes)) (sym whole)

-- one byte altered: by how much the sum moves, and that a number of as many bytes tells its bytes
weighed-set : (place : ℕ) (bytes : List ℕ) (i b : ℕ) → i < length bytes → weighed place (set bytes i b) + get_or bytes i 0 * (place + i + 1) ≡ weighed place bytes + b * (place + i + 1)
unfolding weighed
weighed-set place [] i b h = absurd (omega arith)
weighed-set place (x ∷ bytes) zero b h = let same : place + 0 + 1 ≡ place + 1 = omega arith in rw same (omega arith)
weighed-set place (x ∷ bytes) (suc i) b h =
    let same : suc place + i + 1 ≡ place + suc i + 1 = omega arith in
    let more : weighed (suc place) (set bytes i b) + get_or bytes i 0 * (place + suc i + 1) ≡ weighed (suc place) bytes + b * (place + suc i + 1) = rw same at (weighed-set (suc place) bytes i b (omega arith)) in
    omega (arith, more)

number_tells : (a b : List ℕ) → Bytes a → Bytes b → length a ≡ length b → number_of a ≡ number_of b → a ≡ b
number_tells a b ha hb len same = sym (le_write a ha) ∙ ap₂ little_endian len same ∙ le_write b hb

-- in the content, and in the check
altered_content : (block : List ℕ) (i b : ℕ) → length block ≡ 512 → i < 508 → (b ≡ get_or block i 0 → ⊥) → checks block ≡ true → checks (set block i b) ≡ true → ⊥
altered_content block i b len near other before after =
    let room : i < length (content block) = omega (arith, length-take-le 508 block (omega arith)) in
    let sum : number_of (take 4 (drop 508 block)) ≡ weighed 0 (content block) = eqb-true (number_of (take 4 (drop 508 block))) (weighed 0 (content block)) before in
    let sum-after : number_of (take 4 (drop 508 (set block i b))) ≡ weighed 0 (content (set block i b)) = eqb-true (number_of (take 4 (drop 508 (set block i b)))) (weighed 0 (content (set block i b))) after in
    let moved : weighed 0 (set (content block) i b) + get_or (content block) i 0 * (0 + i + 1) ≡ weighed 0 (content block) + b * (0 + i + 1) = weighed-set 0 (content block) i b room in
    let same : weighed 0 (set (content block) i b) ≡ weighed 0 (content block) =
    ap (weighed 0) (sym (take-set-lt 508 block i b near)) ∙ sym sum-after ∙ ap (λ (tail : List ℕ). number_of (take 4 tail)) (drop-set-lt 508 block i b near) ∙ sum in
    let product : b * (0 + i + 1) ≡ get_or (content block) i 0 * (0 + i + 1) = omega (arith, moved, same) in
    other (eq_of_mul-eq-mul_right (0 + i + 1) (omega arith) b (get_or (content block) i 0) product ∙ get_or-take 508 block i 0 near)

altered_check : (block : List ℕ) (k b : ℕ) → Bytes block → length block ≡ 512 → k < 4 → b < 256 → (b ≡ get_or block (508 + k) 0 → ⊥) → checks block ≡ true → checks (set block (508 + k) b) ≡ true → ⊥
altered_check block k b h len near small other before after =
    let four : length (drop 508 block) ≡ 4 = omega (arith, length-drop 508 block) in
    let tail : take 4 (drop 508 block) ≡ drop 508 block = take_all 4 (drop 508 block) (omega (arith, four)) in
    let moved : drop 508 (set block (508 + k) b) ≡ set (drop 508 block) k b = drop-set-add 508 block k b in
    let tail-after : take 4 (drop 508 (set block (508 + k) b)) ≡ set (drop 508 block) k b =
    ap (take 4) moved ∙ take_all 4 (set (drop 508 block) k b) (omega (arith, four, length-set (drop 508 block) k b)) in
    let sum : number_of (drop 508 block) ≡ weighed 0 (content block) = ap number_of (sym tail) ∙ eqb-true (number_of (take 4 (drop 508 block))) (weighed 0 (content block)) before in
    let sum-after : number_of (set (drop 508 block) k b) ≡ weighed 0 (content block) =
    ap number_of (sym tail-after)
    ∙ eqb-true (number_of (take 4 (drop 508 (set block (508 + k) b)))) (weighed 0 (content (set block (508 + k) b))) after
    ∙ ap (weighed 0) (take-set-le 508 block (508 + k) b (omega arith)) in
    let same : set (drop 508 block) k b ≡ drop 508 block =
    number_tells (set (drop 508 block) k b) (drop 508 block) (all_changed is_byte (drop 508 block) k b (all_rest is_byte 508 block h) (lt-ltb b 256 small)) (all_rest is_byte 508 block h) (length-set (drop 508 block) k b) (sum-after ∙ sym sum) in
    other (sym (get_or-set_same (drop 508 block) k b 0 (omega (arith, four))) ∙ ap (λ (l : List ℕ). get_or l k 0) same ∙ get_or-drop 508 block k 0)

-- at any place of a block
pub altered_block : (block : List ℕ) (i b : ℕ) → Bytes block → length block ≡ 512 → i < 512 → b < 256 → (b ≡ get_or block i 0 → ⊥) → checks block ≡ true → checks (set block i b) ≡ true → ⊥
altered_block block i b h len inside small other before after = go (dec_le 508 i)
  where
    go : Dec (508 ≤ i) → ⊥
    go (yes le) =
        let here : i ≡ 508 + (i - 508) = omega arith in
        altered_check block (i - 508) b h len (omega arith) small (rw here at other) before (rw here at after)
    go (no gt) = altered_content block i b len (omega arith) other before after
