-- Request 2.9: "A reader over the lent file hands out one call after another, once the whole file has been checked." The reader is the file and a place in it: that of the next call's
-- ten bytes, or the file's end.
use Rattle.std.specs.Prelude.{◌≡◌, Bool, true, false, cond, List, [], ◌∷◌, ℕ, ◌+◌, ◌-◌, ◌*◌, ◌%◌, ltb, leb, eqb, length, take, drop, get_or}
use Rattle.call.specs.declared.Call.{Call}
use Rattle.call.specs.declared.Call.TheVariants.{Load}
use Rattle.history.specs.Entry.{Entry}
use Rattle.file_spec.specs.CallBlock.{code_call, is_load_code}
use Rattle.file_spec.specs.Number.{file_number}

-- The place of the first call in the block that begins at `start`, or the end where there is no such block.
abbrev pub call_place : List ℕ → ℕ → ℕ
call_place file start = cond (ltb start (length file)) (start + 1) (length file)

-- Where a reader begins: the end where the file is refused, so that it hands out nothing.
unfoldable pub first_place : List ℕ → ℕ
first_place file = cond (eqb (file_number file) 0) (call_place file 512) (length file)

-- The ten bytes at a place, the start of the place's block, and how many calls that block has.
abbrev pub code_of : List ℕ → ℕ → List ℕ
code_of file at = take 10 (drop at file)

abbrev pub start_of : ℕ → ℕ
start_of at = at - at % 512

abbrev pub many_of : List ℕ → ℕ → ℕ
many_of file at = get_or file (start_of at) 0

-- The place behind a call: the next of its block, else the first of the next call block, which is the second behind it where a table block follows a load.
unfoldable pub place_behind : List ℕ → ℕ → ℕ
place_behind file at =
    cond (leb (at % 512 + 10) (10 * many_of file at)) (at + 10)
    (call_place file (start_of at + cond (is_load_code (code_of file at)) 1024 512))

-- A place at which ten bytes lie; the end is none.
abbrev pub has_call : List ℕ → ℕ → Bool
has_call file at = leb (at + 10) (length file)

-- What a reader hands out at a place: the call, the order that is lent beside it, that of the next block where it is a load, and the place behind it. Past the last call there is none, and
-- the reader stays.
pub record Handed : Type 0 where
  pub found : Bool
  pub call : Call
  pub order : List ℕ
  pub behind : ℕ

abbrev pub order_at : List ℕ → ℕ → List ℕ
order_at file at = cond (is_load_code (code_of file at)) (take (52 * get_or file (start_of at + 513) 0) (drop (start_of at + 544) file)) []

unfoldable pub handed_at : List ℕ → ℕ → Handed
handed_at file at =
    cond (has_call file at)
    (record { found = true; call = code_call (code_of file at); order = order_at file at; behind = place_behind file at })
    (record { found = false; call = Load; order = []; behind = at })

-- A reader at this place hands out these calls, one after another, and then no more.
unfoldable pub Reads : List ℕ → ℕ → List Entry → Type 0
Reads file at [] = (handed_at file at).found ≡ false
Reads file at (e ∷ es) =
    ((handed_at file at).found ≡ true) × ((handed_at file at).call ≡ e.call) × ((handed_at file at).order ≡ e.order) × Reads file (handed_at file at).behind es
