-- Request 2.2, a played round that takes the whole cover: four doubled hands of three sevens against a bust bank. The tray has 32 × the stake and ends with nothing.
-- Three decks, six seats; seat 2 acts throughout, as in the program `rehearsal`.
use Rattle.std.specs.Prelude.{◌≡◌, List, [], ◌∷◌, ◌++◌, ℕ, suc, ◌-◌, replicate}
use Rattle.lists.specs.Sum.{count_of}
use Rattle.call.specs.declared.Call.{Call}
use Rattle.call.specs.declared.Call.TheVariants.{Fill, Buy, Stake, Deal, Double, Split, Close}
use Rattle.options.specs.declared.Options.{Options}
use Rattle.cashier_spec.specs.Opening.{open_number, opened}
use Rattle.engine.specs.Session.{at, row, rows}

-- The marked session's options, but for three decks with 30 cards behind the cut.
unfoldable pub three_decks : Options
three_decks =
    record { seats = 6; decks = 3; first = 1; later = 0; hands = 4; aces = 0; double = 1; limit = 0; insurance = 1; five = 0; prize = 1; device = 1; decider = 1; cut = 30; smallest = 2; largest = 100 }

-- A two to burn, a six for the bank between the first sevens, the twelve sevens, and two tens for the bank.
unfoldable pub sevens_first : List ℕ
sevens_first = 1 ∷ 6 ∷ 5 ∷ 19 ∷ 32 ∷ 45 ∷ 6 ∷ 19 ∷ 32 ∷ 45 ∷ 6 ∷ 19 ∷ 32 ∷ 45 ∷ 9 ∷ 22 ∷ []

-- The faces from n on, k of them, each as often as it is left of three decks.
unfoldable pub rest : ℕ → ℕ → List ℕ
rest n ℕ.zero = []
rest n (suc k) = replicate (3 - count_of n sevens_first) n ++ rest (suc n) k

unfoldable pub full_order : List ℕ
full_order = sevens_first ++ rest 0 52

unfoldable pub full_calls : List Call
full_calls = Fill 640 ∷ Buy at 160 ∷ Stake at 20 ∷ Deal ∷ Split at ∷ Split at ∷ Split at ∷ Double at ∷ Double at ∷ Double at ∷ Double at ∷ Close ∷ []

-- Number, tray, layout, all purses and cards left, after each call.
pub record FullCover : Type 0 where
  pub opens : row (open_number three_decks full_order) (opened three_decks full_order) ≡ 0 ∷ 0 ∷ 0 ∷ 0 ∷ 156 ∷ []
  pub plays : rows (opened three_decks full_order) full_calls
      ≡ (0 ∷ 640 ∷ 0 ∷ 0 ∷ 156 ∷ [])
      ∷ (0 ∷ 640 ∷ 0 ∷ 160 ∷ 156 ∷ [])
      ∷ (0 ∷ 640 ∷ 20 ∷ 140 ∷ 156 ∷ [])
      ∷ (0 ∷ 640 ∷ 20 ∷ 140 ∷ 152 ∷ [])
      ∷ (0 ∷ 640 ∷ 40 ∷ 120 ∷ 150 ∷ [])
      ∷ (0 ∷ 640 ∷ 60 ∷ 100 ∷ 148 ∷ [])
      ∷ (0 ∷ 640 ∷ 80 ∷ 80 ∷ 146 ∷ [])
      ∷ (0 ∷ 520 ∷ 100 ∷ 180 ∷ 145 ∷ [])
      ∷ (0 ∷ 400 ∷ 120 ∷ 280 ∷ 144 ∷ [])
      ∷ (0 ∷ 280 ∷ 140 ∷ 380 ∷ 143 ∷ [])
      ∷ (0 ∷ 160 ∷ 160 ∷ 480 ∷ 142 ∷ [])
      ∷ (0 ∷ 0 ∷ 0 ∷ 800 ∷ 140 ∷ [])
      ∷ []
