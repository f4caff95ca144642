-- Request 2.9: "512-byte blocks. Numbers are little-endian. The last four bytes of a block hold the sum over its other 508 bytes of byte times (its place + 1), places from 0."
use Rattle.std.specs.Prelude.{◌≡◌, Bool, true, List, [], ◌∷◌, ◌++◌, ℕ, zero, suc, ◌+◌, ◌*◌, ◌/◌, ◌%◌, ltb, eqb, take, drop, replicate}
use Rattle.lists.specs.Tests.{all_of}

-- A list of bytes.
abbrev pub is_byte : ℕ → Bool
is_byte b = ltb b 256

abbrev pub Bytes : List ℕ → Type 0
Bytes file = all_of is_byte file ≡ true

-- A number in so many bytes, the lowest first.
unfoldable pub little_endian : ℕ → ℕ → List ℕ
little_endian zero n = []
little_endian (suc bytes) n = n % 256 ∷ little_endian bytes (n / 256)

-- The number that bytes hold.
unfoldable pub number_of : List ℕ → ℕ
number_of [] = 0
number_of (b ∷ bytes) = b + 256 * number_of bytes

-- The sum of byte times (its place + 1), the first byte being at this place.
unfoldable pub weighed : ℕ → List ℕ → ℕ
weighed place [] = 0
weighed place (b ∷ bytes) = b * (place + 1) + weighed (suc place) bytes

-- A block's bytes before its check, and whether the check is theirs.
abbrev pub content : List ℕ → List ℕ
content block = take 508 block

abbrev pub checks : List ℕ → Bool
checks block = eqb (number_of (take 4 (drop 508 block))) (weighed 0 (content block))

-- Bytes with zeros behind them, so many in all.
abbrev pub padded : ℕ → List ℕ → List ℕ
padded many bytes = take many (bytes ++ replicate many 0)

-- The block that holds these bytes: zeros behind them, then the check.
unfoldable pub sealed : List ℕ → List ℕ
sealed bytes = padded 508 bytes ++ little_endian 4 (weighed 0 (padded 508 bytes))

-- Every one of these bytes is zero.
abbrev pub zeros : List ℕ → Bool
zeros bytes = all_of (λ b. eqb b 0) bytes

-- The first pieces of so many bytes each: the blocks of a file, the calls of a block.
unfoldable pub pieces : ℕ → ℕ → List ℕ → List (List ℕ)
pieces size zero bytes = []
pieces size (suc many) bytes = take size bytes ∷ pieces size many (drop size bytes)
