-- Document 01, "The seventeen calls": "Opening takes the options and a first order, which counts as a load; tray and purses are 0", and "Who can bring
-- about which number": "A refused opening gives the empty table". The opening's conditions, and its two tables.
use Rattle.std.specs.Prelude.{not, cond, List, [], ◌∷◌, ℕ, eqb, replicate}
use Rattle.call.specs.Refusal.{Condition, first}
use Rattle.cards.specs.Hand.{empty_hand}
use Rattle.options.specs.declared.Options.{Options}
use Rattle.options.specs.Ranges.{in_range, no_options}
use Rattle.table.specs.declared.Table.{Table}
use Rattle.table.specs.Seat.{empty_seat}
use Rattle.table.specs.Shoe.{valid_order, new_shoe}
use Rattle.table.specs.Table.{make_table}

-- 2 an option outside its range; 3 wrong length, card or count.
unfoldable pub open_conditions : Options → List ℕ → List Condition
open_conditions o order = (2, not (in_range o)) ∷ (3, not (valid_order o.decks order)) ∷ []

-- An accepted opening: nine empty seats, a bank with no card, the order loaded.
abbrev pub open_table : Options → List ℕ → Table
open_table o order = make_table o 0 (replicate 9 empty_seat) empty_hand (new_shoe 0 order)

-- A refused opening gives the empty table: no seats, cards or money.
abbrev pub empty_table : Table
empty_table = open_table no_options []

-- The number of an opening, and its table.
unfoldable pub open_number : Options → List ℕ → ℕ
open_number o order = first (open_conditions o order)

unfoldable pub opened : Options → List ℕ → Table
opened o order = cond (eqb (open_number o order) 0) (open_table o order) empty_table
