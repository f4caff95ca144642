-- Document 01, "House options": how many cards a deal burns. First burn if the shoe is fresh, with the machine at its first deal since the opening (request 2.7),
-- else later burn (article 4).
use Rattle.std.specs.Prelude.{cond, ℕ, eqb}
use Rattle.options.specs.declared.Options.{Options}
use Rattle.table.specs.declared.Shoe.{Shoe}
use Rattle.table.specs.Shoe.{burns_first}

-- First burn: 1 one card, 2 one per deck.
abbrev pub first_burn : Options → ℕ
first_burn o = cond (eqb o.first 1) 1 o.decks

-- Later burn: 0 none; 1 and 2 one card.
abbrev pub later_burn : Options → ℕ
later_burn o = cond (eqb o.later 0) 0 1

-- How many cards a deal burns.
unfoldable pub burn_at_deal : Options → Shoe → ℕ
burn_at_deal o sh = cond (burns_first o sh) (first_burn o) (later_burn o)
