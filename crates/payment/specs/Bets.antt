-- Document 01, "Payment", and request 2.6: what a guest has on the layout in a round, which decides all that is paid to it. The calls read it off a seat, the history
-- off its calls.
use Rattle.std.specs.Prelude.{List, ℕ, ◌+◌, ◌-◌, get_or}
use Rattle.rules.specs.SeatHand.{Played}

-- The stake S, the insurance I, the side stakes by kind, the first cards of the seat (its first two, and behind them the first card that its first split drew), and
-- its hands by place.
pub record Bets : Type 0 where
  pub stake : ℕ
  pub insurance : ℕ
  pub sides : List ℕ
  pub first : List ℕ
  pub hands : List Played

abbrev pub bets : ℕ → ℕ → List ℕ → List ℕ → List Played → Bets
bets stake insurance sides first hands = record { stake = stake; insurance = insurance; sides = sides; first = first; hands = hands }

-- The side stake of a kind, 1 to 4, and all four together.
abbrev pub side : List ℕ → ℕ → ℕ
side sides k = get_or sides (k - 1) 0

abbrev pub all_sides : List ℕ → ℕ
all_sides sides = side sides 1 + side sides 2 + side sides 3 + side sides 4
