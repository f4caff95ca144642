-- The rules for the calls of a block, as the code asks them in one walk.
use Rattle.std.specs.Prelude.{Bool, cond, not, ◌&&◌, ◌||◌, List, ℕ, ◌+◌, ◌-◌, ◌*◌, ltb, eqb, take, drop}
use Rattle.std.specs.List.{list_any}
use Rattle.file_spec.specs.CallBlock.{most, many_in, codes_in, code_kind, code_seat, code_amount, has_seat, has_amount, is_load_code, ends_in_load}
use Rattle.file_block.specs.Aids.Tables.{all_zero}
use Rattle.file_block.specs.declared.call_block.Code.{Code}

-- Ten bytes taken apart.
abbrev pub code_of : List ℕ → Code
code_of bytes = record { kind = code_kind bytes; guest = code_seat bytes; amount = code_amount bytes }

-- An unknown kind, a seat or an amount at a call that has none.
unfoldable pub faulty_code : List ℕ → Bool
faulty_code code =
    eqb (code_kind code) 0
    || ltb 21 (code_kind code)
    || (not (has_seat (code_kind code)) && not (eqb (code_seat code) 0))
    || (not (has_amount (code_kind code)) && not (eqb (code_amount code) 0))

-- The last block of the file ends in a load, another neither is full nor ends in one.
abbrev pub ends_badly : Bool → List ℕ → Bool
ends_badly last block = cond last (ends_in_load block) (ltb (many_in block) most && not (ends_in_load block))

-- What is asked of a call block beside its check, in one test.
abbrev pub has_calls : Bool → List ℕ → Bool
has_calls last block =
    not (eqb (many_in block) 0)
    && not (ltb most (many_in block))
    && not (list_any faulty_code (codes_in block))
    && not (list_any is_load_code (take (many_in block - 1) (codes_in block)))
    && all_zero (take (508 - (1 + 10 * many_in block)) (drop (1 + 10 * many_in block) block))
    && not (ends_badly last block)
