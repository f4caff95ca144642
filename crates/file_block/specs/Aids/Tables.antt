-- What is asked of a table block beside its check, in one test, by the library's test of all bytes.
use Rattle.std.specs.Prelude.{Bool, ◌&&◌, List, ℕ, ◌+◌, ◌-◌, eqb, take, drop, get_or}
use Rattle.std.specs.List.{list_all}
use Rattle.options.specs.Ranges.{in_range}
use Rattle.table.specs.Shoe.{valid_order}
use Rattle.file_spec.specs.TableBlock.{options_in, cards_in, order_in}

abbrev pub all_zero : List ℕ → Bool
all_zero bytes = list_all (λ b. eqb b 0) bytes

abbrev pub has_table : List ℕ → Bool
has_table block =
    in_range (options_in block)
    && valid_order (get_or block 1 0) (order_in block)
    && all_zero (take 9 (drop 23 block))
    && all_zero (take (508 - (32 + cards_in block)) (drop (32 + cards_in block) block))
