-- Request 2.9: "A call block has a byte for the number of calls, 1 to 50, then ten bytes each: kind 1 to 21 …, seat + 16 × position, eight bytes of amount; zeros after. Calls
-- without seat or amount have 0 there. A load is the last call of its block …. Every call block is full unless it ends in a load or is the file's last."
use Rattle.std.specs.Prelude.{Bool, cond, not, ◌&&◌, ◌||◌, List, [], ◌∷◌, ℕ, ◌+◌, ◌-◌, ◌*◌, ◌/◌, ◌%◌, ltb, leb, eqb, length, take, drop, get_or}
use Rattle.lists.specs.Tests.{any_of}
use Rattle.lists.specs.Flat.{flat}
use Rattle.call.specs.declared.At.{At}
use Rattle.call.specs.declared.Call.{Call}
use Rattle.call.specs.declared.Call.TheVariants.{Fill, Credit, Buy, Cash, Stake, Deal, Insure, Stand, Draw, Double, Split, Surrender, Even, Five, Close, Void, Load, Side}
use Rattle.call.specs.Call.{kind, seat, position, amount}
use Rattle.call.specs.Refusal.{Condition}
use Rattle.file_spec.specs.Block.{little_endian, number_of, content, checks, sealed, zeros, pieces}

-- As many calls as a block can hold.
abbrev pub most : ℕ
most = 50

-- The ten bytes of a call: its kind, its seat and position, its amount.
unfoldable pub call_bytes : Call → List ℕ
call_bytes c = kind c ∷ (seat c + 16 * position c) ∷ little_endian 8 (amount c)

-- The block of these calls.
unfoldable pub call_block : List Call → List ℕ
call_block calls = sealed (length calls ∷ flat call_bytes calls)

-- The number of calls that a block holds, and the ten bytes of each.
abbrev pub many_in : List ℕ → ℕ
many_in block = get_or block 0 0

unfoldable pub codes_in : List ℕ → List (List ℕ)
codes_in block = pieces 10 (many_in block) (drop 1 block)

-- The kind that ten bytes name, the byte of seat and position, and the amount.
abbrev pub code_kind : List ℕ → ℕ
code_kind code = get_or code 0 0

abbrev pub code_seat : List ℕ → ℕ
code_seat code = get_or code 1 0

abbrev pub code_amount : List ℕ → ℕ
code_amount code = number_of (take 8 (drop 2 code))

abbrev pub code_at : List ℕ → At
code_at code = record { seat = code_seat code % 16; position = code_seat code / 16 }

-- The call of a kind, 1 to 21.
unfoldable pub call_of : ℕ → At → ℕ → Call
call_of k at n =
    cond (eqb k 1) (Fill n)
    (cond (eqb k 2) (Credit n)
    (cond (eqb k 3) (Buy at n)
    (cond (eqb k 4) (Cash at n)
    (cond (eqb k 5) (Stake at n)
    (cond (eqb k 6) Deal
    (cond (eqb k 7) (Insure at n)
    (cond (eqb k 8) (Stand at)
    (cond (eqb k 9) (Draw at)
    (cond (eqb k 10) (Double at)
    (cond (eqb k 11) (Split at)
    (cond (eqb k 12) (Surrender at)
    (cond (eqb k 13) (Even at)
    (cond (eqb k 14) (Five at)
    (cond (eqb k 15) Close
    (cond (eqb k 16) Void
    (cond (eqb k 17) Load
    (Side at (k - 17) n)))))))))))))))))

abbrev pub code_call : List ℕ → Call
code_call code = call_of (code_kind code) (code_at code) (code_amount code)

-- The kinds of calls with a seat, and of those with an amount.
abbrev pub has_seat : ℕ → Bool
has_seat k = leb 3 k && leb k 5 || leb 7 k && leb k 14 || leb 18 k

abbrev pub has_amount : ℕ → Bool
has_amount k = leb k 5 || eqb k 7 || leb 18 k

abbrev pub is_load_code : List ℕ → Bool
is_load_code code = eqb (code_kind code) 17

-- The last call of the block is a load.
abbrev pub ends_in_load : List ℕ → Bool
ends_in_load block = any_of is_load_code (drop (many_in block - 1) (codes_in block))

-- A kind that is 0 or above 21; a seat, and an amount, at a call that has none.
abbrev pub wrong_kind : List ℕ → Bool
wrong_kind code = eqb (code_kind code) 0 || ltb 21 (code_kind code)

abbrev pub stray_seat : List ℕ → Bool
stray_seat code = not (has_seat (code_kind code)) && not (eqb (code_seat code) 0)

abbrev pub stray_amount : List ℕ → Bool
stray_amount code = not (has_amount (code_kind code)) && not (eqb (code_amount code) 0)

-- What is asked of a call block, `last` saying whether it is the file's last: 25 the check, then 26 for
unfoldable pub call_conditions : Bool → List ℕ → List Condition
call_conditions last block =
    (25, not (checks block))
    -- a number of calls that is 0 or above 50
    ∷ (26, eqb (many_in block) 0 || ltb most (many_in block))
    -- a wrong kind, a seat or an amount at a call that has none
    ∷ (26, any_of wrong_kind (codes_in block))
    ∷ (26, any_of stray_seat (codes_in block))
    ∷ (26, any_of stray_amount (codes_in block))
    -- a load that is not the last of its block
    ∷ (26, any_of is_load_code (take (many_in block - 1) (codes_in block)))
    -- a byte behind the calls that is not zero
    ∷ (26, not (zeros (drop (1 + 10 * many_in block) (content block))))
    -- a block that is neither full nor ends in a load nor is the last
    ∷ (26, not last && ltb (many_in block) most && not (ends_in_load block))
    -- a load behind which the file ends
    ∷ (26, last && ends_in_load block)
    ∷ []
