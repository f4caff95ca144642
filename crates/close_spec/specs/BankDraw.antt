-- Document 01, close: bank's burn if the option is 2, the bank's second card, then cards while its total is 16 or less, even if every hand is bust
-- (articles 4 and 6). The box's bank has its second card from the deal, so that close draws only what follows, perhaps nothing (request 2.7).
use Rattle.std.specs.Prelude.{cond, List, ℕ, ◌+◌, ◌-◌, eqb, length, drop}
use Rattle.options.specs.declared.Options.{Options}
use Rattle.payment.specs.Bank.{bank_takes}
use Rattle.table.specs.declared.Table.{Table}
use Rattle.table.specs.Table.{bank_cards, table_shoe}

-- Later burn 2: one card before the bank's second card.
unfoldable pub bank_burn : Options → ℕ
bank_burn o = cond (eqb o.later 2) 1 0

-- The bank's cards, behind the card that is burnt.
unfoldable pub bank_at_close : Table → List ℕ
bank_at_close t = bank_takes (bank_cards t) (drop (bank_burn t.options) (table_shoe t))

-- How many cards close takes of the shoe.
unfoldable pub close_takes : Table → ℕ
close_takes t = bank_burn t.options + (length (bank_at_close t) - length (bank_cards t))
