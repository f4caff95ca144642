-- The premises of the box's secret can be met: one list is shown, with the exchange in a load and with it in the opening. The faces lie in their order; a guest has a two and
-- a four against a three, draws a six and stands. The hidden card is a five, and a ten is exchanged for it: the close, which ends the secret, tells them apart.
use Rattle.std.specs.Prelude.{◌≡◌, List, [], ◌∷◌, ◌++◌, ℕ, suc}
use Rattle.call.specs.declared.Call.{Call}
use Rattle.call.specs.declared.Call.TheVariants.{Fill, Buy, Stake, Draw, Stand, Close}
use Rattle.options.specs.declared.Options.{Options}
use Rattle.table.specs.declared.Table.{Table}
use Rattle.history.specs.Entry.{Entry}
use Rattle.cashier_spec.specs.Opening.{opened}
use Rattle.engine.specs.Session.{at}
use Rattle.engine.specs.Step.{step}
use Rattle.engine.specs.Run.{run}
use Rattle.secret.specs.Secret.{exchanged, load, up_to_close, OneLoad, AtOpening}

-- The marked session's options, but for a box.
unfoldable pub box_house : Options
box_house =
    record { seats = 6; decks = 1; first = 1; later = 0; hands = 4; aces = 0; double = 1; limit = 0; insurance = 1; five = 0; prize = 1; device = 2; decider = 1; cut = 0; smallest = 2; largest = 100 }

-- The faces from n on, k of them.
unfoldable pub faces : ℕ → ℕ → List ℕ
faces n ℕ.zero = []
faces n (suc k) = n ∷ faces (suc n) k

unfoldable pub rising : List ℕ
rising = faces 0 52

abbrev plain : Call → Entry
plain c = record { call = c; order = [] }

unfoldable pub filled : List Entry
filled = plain (Fill 1000) ∷ []

unfoldable pub staked : List Entry
staked = plain (Buy at 100) ∷ plain (Stake at 20) ∷ []

unfoldable pub played : List Entry
played = plain (Draw at) ∷ plain (Stand at) ∷ []

-- All calls before the close, with this order in the load.
unfoldable pub calls : List ℕ → List Entry
calls order = filled ++ load order ∷ up_to_close staked [] played

-- The bank's cards that close shows on a table.
unfoldable pub bank_closed : Table → List ℕ
bank_closed t = (step t Close []).answer.shown.bank

pub record Example : Type 0 where
  pub in_a_load : OneLoad box_house staked [] played 4 9 rising filled rising
  pub in_the_opening : AtOpening box_house (filled ++ staked) [] played 4 9 rising
  -- three, five, seven and eight; three, ten and seven
  pub close_tells : bank_closed (run (opened box_house rising) (calls rising)) ≡ 2 ∷ 4 ∷ 6 ∷ 7 ∷ []
  pub close_tells_other : bank_closed (run (opened box_house rising) (calls (exchanged 4 9 rising))) ≡ 2 ∷ 9 ∷ 6 ∷ []
