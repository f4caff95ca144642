-- Request 2.1: the dealer calls a hand's total aloud, as article 7 tells, and says soft where an ace counts eleven.
use Rattle.std.specs.Prelude.{Bool, false, List, ℕ, ◌+◌, eqb}
use Rattle.cards.specs.Total.{low_sum, total}
use Rattle.cards.specs.declared.score.HandScore.{HandScore}

-- Soft exactly when the total is the low sum + 10.
abbrev pub is_soft : List ℕ → Bool
is_soft cards = eqb (total cards) (low_sum cards + 10)

-- The total with that yes or no.
abbrev pub hand_score : List ℕ → HandScore
hand_score cards = record { total = total cards; soft = is_soft cards }

-- What stands where there is no hand.
abbrev pub no_score : HandScore
no_score = record { total = 0; soft = false }
