-- Document 01, number 1, "the cards on the table aren't the loaded faces": the cards that have left the shoe, in hands, with the bank and among the discards.
use Rattle.std.specs.Prelude.{List, ◌++◌, ℕ}
use Rattle.table.specs.declared.Table.{Table}
use Rattle.table.specs.Table.{hand_cards, bank_cards, table_discards}

abbrev pub out_cards : Table → List ℕ
out_cards t = hand_cards t ++ bank_cards t ++ table_discards t
