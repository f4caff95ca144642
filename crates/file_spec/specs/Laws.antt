-- Request 2.9: what is claimed of any file that is not refused.
use Rattle.std.specs.Prelude.{◌≡◌, cond, List, [], ℕ, ◌<◌, length, get_or, set}
use Rattle.history.specs.Entry.{Entry, is_load}
use Rattle.file_spec.specs.Block.{Bytes}
use Rattle.file_spec.specs.File.{file_of}
use Rattle.file_spec.specs.Number.{file_number}
use Rattle.file_spec.specs.Handed.{file_options, file_order, file_calls}
use Rattle.file_spec.specs.Reader.{first_place, Reads}

-- What a file keeps of a call: an order stands in it only for a load; what was lent beside another call means nothing.
abbrev pub kept : Entry → Entry
kept e = record { call = e.call; order = cond (is_load e) e.order [] }

-- A file of number 0 is the file of what it hands out, so a session has one file; and a reader hands it out, call by call.
pub record Accepted (file : List ℕ) : Type 0 where
  pub one_file : file ≡ file_of (file_options file) (file_order file) (file_calls file)
  pub read : Reads file (first_place file) (file_calls file)

abbrev pub AcceptedFile : Type 0
AcceptedFile = (file : List ℕ) → Bytes file → file_number file ≡ 0 → Accepted file

-- "A written file with exactly one byte altered is always refused": so is every accepted file.
abbrev pub OneByteAltered : Type 0
OneByteAltered =
    (file : List ℕ) → Bytes file → file_number file ≡ 0 → (place byte : ℕ) → place < length file → byte < 256 → (byte ≡ get_or file place 0 → ⊥)
    → file_number (set file place byte) ≡ 0 → ⊥
