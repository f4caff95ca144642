-- Document 01, "The rehearsal hands", the program `session`: its options, its order, its calls and the rows that it has to print, as a claim about the
-- definitions of the calls. One deck, six seats; seat 2 acts throughout.
use Rattle.std.specs.Prelude.{◌≡◌, cond, List, [], ◌∷◌, ◌++◌, ℕ, suc, eqb}
use Rattle.lists.specs.Tests.{any_of}
use Rattle.call.specs.declared.Call.{Call}
use Rattle.call.specs.declared.Call.TheVariants.{Fill, Buy, Stake, Deal, Insure, Stand, Double, Split, Close}
use Rattle.call.specs.declared.At.{At}
use Rattle.options.specs.declared.Options.{Options}
use Rattle.table.specs.declared.Table.{Table}
use Rattle.table.specs.Table.{cards_left}
use Rattle.table.specs.Money.{layout, purses}
use Rattle.cashier_spec.specs.Opening.{open_number, opened}
use Rattle.engine.specs.Step.{number, next}

-- One deck, six seats, first burn 1, later 0, four hands, aces 0, double 1, limit 0, insurance 1, five 0, prize 1, shoe, the seated guest decides, cut 0, stakes 2–100.
unfoldable pub house : Options
house =
    record { seats = 6; decks = 1; first = 1; later = 0; hands = 4; aces = 0; double = 1; limit = 0; insurance = 1; five = 0; prize = 1; device = 1; decider = 1; cut = 0; smallest = 2; largest = 100 }

-- The faces from n on, k of them, that are not in the list.
unfoldable pub others : List ℕ → ℕ → ℕ → List ℕ
others marked n ℕ.zero = []
others marked n (suc k) = cond (any_of (λ c. eqb c n) marked) (others marked (suc n) k) (n ∷ others marked (suc n) k)

-- The order begins with these, then come the other faces rising.
unfoldable pub marked : List ℕ
marked = 51 ∷ 6 ∷ 5 ∷ 19 ∷ 32 ∷ 9 ∷ 45 ∷ 22 ∷ 3 ∷ []

unfoldable pub order : List ℕ
order = marked ++ others marked 0 52

-- Seat 2, its seated guest, acts throughout.
unfoldable pub at : At
at = record { seat = 2; position = 0 }

-- Number, tray, layout, all purses, cards left.
unfoldable pub row : ℕ → Table → List ℕ
row n t = n ∷ t.tray ∷ layout t ∷ purses t ∷ cards_left t ∷ []

-- A row for each call, on the table that the call before it returned.
unfoldable pub rows : Table → List Call → List (List ℕ)
rows t [] = []
rows t (c ∷ cs) = row (number t c []) (next t c []) ∷ rows (next t c []) cs

-- It fills 1000; the seat buys 100, stakes 20 and offers 10 as insurance.
unfoldable pub calls : List Call
calls = Fill 1000 ∷ Buy at 100 ∷ Stake at 20 ∷ Deal ∷ Insure at 10 ∷ Split at ∷ Double at ∷ Stand at ∷ Close ∷ Stand at ∷ []

-- The rows of the paper: open, then fill, buy, stake, deal, insure, split, double, stand, close, stand.
pub record Session : Type 0 where
  pub opens : row (open_number house order) (opened house order) ≡ 0 ∷ 0 ∷ 0 ∷ 0 ∷ 52 ∷ []
  pub plays : rows (opened house order) calls
      ≡ (0 ∷ 1000 ∷ 0 ∷ 0 ∷ 52 ∷ [])
      ∷ (0 ∷ 1000 ∷ 0 ∷ 100 ∷ 52 ∷ [])
      ∷ (0 ∷ 1000 ∷ 20 ∷ 80 ∷ 52 ∷ [])
      ∷ (0 ∷ 1000 ∷ 20 ∷ 80 ∷ 48 ∷ [])
      ∷ (13 ∷ 1000 ∷ 20 ∷ 80 ∷ 48 ∷ [])
      ∷ (0 ∷ 1000 ∷ 40 ∷ 60 ∷ 46 ∷ [])
      ∷ (0 ∷ 880 ∷ 60 ∷ 160 ∷ 45 ∷ [])
      ∷ (0 ∷ 880 ∷ 60 ∷ 160 ∷ 45 ∷ [])
      ∷ (0 ∷ 860 ∷ 0 ∷ 240 ∷ 43 ∷ [])
      ∷ (5 ∷ 860 ∷ 0 ∷ 240 ∷ 43 ∷ [])
      ∷ []
