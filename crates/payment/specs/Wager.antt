-- Document 01, "The seventeen calls", stake: S is a seat's stake; W, a hand's wager, starts at S, and a double lays S more.
use Rattle.std.specs.Prelude.{cond, ℕ, ◌*◌, eqb}
use Rattle.rules.specs.SeatHand.{Played, by_double}

-- W: 2 S if the hand ended by double, else S.
unfoldable pub wager : ℕ → Played → ℕ
wager stake h = cond (eqb h.ended by_double) (2 * stake) stake
