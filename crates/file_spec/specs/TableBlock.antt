-- Request 2.9: "A table block has a byte for each option in document 01's order, seats to prize, then device and decider; two bytes for the cut, four each for smallest and
-- largest stake; the order at byte 32; zeros elsewhere."
use Rattle.std.specs.Prelude.{Bool, not, List, [], ◌∷◌, ◌++◌, ℕ, ◌+◌, ◌*◌, eqb, take, drop, get_or}
use Rattle.lists.specs.Below.{all_below}
use Rattle.call.specs.Refusal.{Condition}
use Rattle.options.specs.declared.Options.{Options}
use Rattle.options.specs.Ranges.{in_range}
use Rattle.table.specs.Shoe.{valid_order}
use Rattle.file_spec.specs.Block.{little_endian, number_of, content, checks, padded, sealed, zeros}

-- The 23 bytes of the options.
abbrev pub option_bytes : Options → List ℕ
option_bytes o =
    o.seats ∷ o.decks ∷ o.first ∷ o.later ∷ o.hands ∷ o.aces ∷ o.double ∷ o.limit ∷ o.insurance ∷ o.five ∷ o.prize ∷ o.device ∷ o.decider
    ∷ (little_endian 2 o.cut ++ little_endian 4 o.smallest ++ little_endian 4 o.largest)

-- The table block of these options and this order.
unfoldable pub table_block : Options → List ℕ → List ℕ
table_block o order = sealed (padded 32 (option_bytes o) ++ order)

-- The options that a block holds, and its order, of 52 × decks cards.
unfoldable pub options_in : List ℕ → Options
options_in block =
    record {
      seats = get_or block 0 0;
      decks = get_or block 1 0;
      first = get_or block 2 0;
      later = get_or block 3 0;
      hands = get_or block 4 0;
      aces = get_or block 5 0;
      double = get_or block 6 0;
      limit = get_or block 7 0;
      insurance = get_or block 8 0;
      five = get_or block 9 0;
      prize = get_or block 10 0;
      device = get_or block 11 0;
      decider = get_or block 12 0;
      cut = number_of (take 2 (drop 13 block));
      smallest = number_of (take 4 (drop 15 block));
      largest = number_of (take 4 (drop 19 block));
    }

abbrev pub cards_in : List ℕ → ℕ
cards_in block = 52 * get_or block 1 0

abbrev pub order_in : List ℕ → List ℕ
order_in block = take (cards_in block) (drop 32 block)

-- What is asked of a table block: 25 the check, then 26 for the options, the order, and each byte that should be zero.
unfoldable pub table_conditions : List ℕ → List Condition
table_conditions block =
    (25, not (checks block))
    ∷ (26, not (in_range (options_in block)))
    ∷ (26, not (valid_order (get_or block 1 0) (order_in block)))
    ∷ (26, not (zeros (take 9 (drop 23 block))))
    ∷ (26, not (zeros (drop (32 + cards_in block) (content block))))
    ∷ []

-- Two blocks have the same options.
abbrev pub same_options : List ℕ → List ℕ → Bool
same_options one other = all_below (λ k. eqb (get_or one k 0) (get_or other k 0)) 23

-- What is asked of a table block behind a load: the same, and 26 where its options are not those of the file's first block.
unfoldable pub loaded_conditions : List ℕ → List ℕ → List Condition
loaded_conditions start block = table_conditions block ++ (26, not (same_options start block)) ∷ []
