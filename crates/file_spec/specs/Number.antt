-- Request 2.9: "24 length no multiple of 512, or empty; 25 check wrong; 26 content against these rules, options and orders included, acceptance of calls … not; in this order,
-- block by block." The number of any bytes.
use Rattle.std.specs.Prelude.{Bool, cond, false, true, not, ◌||◌, List, [], ◌∷◌, ℕ, ◌/◌, ◌%◌, eqb, length}
use Rattle.call.specs.Refusal.{first}
use Rattle.file_spec.specs.Block.{pieces}
use Rattle.file_spec.specs.TableBlock.{table_conditions, loaded_conditions}
use Rattle.file_spec.specs.CallBlock.{call_conditions, ends_in_load}

-- A number that is not 0, else the one behind it.
abbrev pub or_else : ℕ → ℕ → ℕ
or_else n later = cond (eqb n 0) later n

-- No block is left.
unfoldable pub is_end : List (List ℕ) → Bool
is_end [] = true
is_end (block ∷ blocks) = false

-- The blocks behind the first, `start`: a call block, or a table block where the one before ended in a load.
unfoldable pub number_behind : List ℕ → Bool → List (List ℕ) → ℕ
number_behind start loaded [] = 0
number_behind start loaded (block ∷ blocks) =
    cond loaded (or_else (first (loaded_conditions start block)) (number_behind start false blocks))
    (or_else (first (call_conditions (is_end blocks) block)) (number_behind start (ends_in_load block) blocks))

unfoldable pub blocks_number : List (List ℕ) → ℕ
blocks_number [] = 0
blocks_number (start ∷ blocks) = or_else (first (table_conditions start)) (number_behind start false blocks)

-- The blocks of a file.
abbrev pub file_blocks : List ℕ → List (List ℕ)
file_blocks file = pieces 512 (length file / 512) file

unfoldable pub file_number : List ℕ → ℕ
file_number file = cond (eqb (length file) 0 || not (eqb (length file % 512) 0)) 24 (blocks_number (file_blocks file))
