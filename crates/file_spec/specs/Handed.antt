-- Request 2.9: what a file hands out once the whole of it has been checked: the options and the order that its session opens with, and its calls, oldest first, each load with the order of
-- the table block that follows.
use Rattle.std.specs.Prelude.{Bool, cond, false, List, [], ◌∷◌, ◌++◌, map, ℕ, take}
use Rattle.options.specs.declared.Options.{Options}
use Rattle.history.specs.Entry.{Entry}
use Rattle.file_spec.specs.TableBlock.{options_in, order_in}
use Rattle.file_spec.specs.CallBlock.{codes_in, code_call, is_load_code, ends_in_load}
use Rattle.file_spec.specs.Number.{file_blocks}

-- The options and the order of the first block.
abbrev pub file_options : List ℕ → Options
file_options file = options_in (take 512 file)

abbrev pub file_order : List ℕ → List ℕ
file_order file = order_in (take 512 file)

-- A call, with the order that is lent beside it where it is a load.
abbrev pub code_entry : List ℕ → List ℕ → Entry
code_entry order code = record { call = code_call code; order = cond (is_load_code code) order [] }

-- The order of the next block.
unfoldable pub next_order : List (List ℕ) → List ℕ
next_order [] = []
next_order (block ∷ blocks) = order_in block

-- The calls of the blocks behind the first; a table block, which follows a load, has none.
unfoldable pub calls_behind : Bool → List (List ℕ) → List Entry
calls_behind loaded [] = []
calls_behind loaded (block ∷ blocks) =
    cond loaded (calls_behind false blocks) (map (code_entry (next_order blocks)) (codes_in block) ++ calls_behind (ends_in_load block) blocks)

unfoldable pub behind_first : List (List ℕ) → List (List ℕ)
behind_first [] = []
behind_first (block ∷ blocks) = blocks

unfoldable pub file_calls : List ℕ → List Entry
file_calls file = calls_behind false (behind_first (file_blocks file))
