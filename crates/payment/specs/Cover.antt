-- Document 01, number 16, and requests 2.2 and 2.6: at deal the tray holds at least 32 × all stakes, also with the prize off, and 11, 5000, 1 and 1 times the side
-- stakes of each kind.
use Rattle.std.specs.Prelude.{List, ℕ, ◌+◌, ◌*◌}
use Rattle.payment.specs.Bets.{side}

-- The cover of a stake S: what it can take from the tray in one round.
abbrev pub cover : ℕ → ℕ
cover S = 32 * S

-- The cover of the side stakes, by kind: the most that each can win.
abbrev pub side_cover : List ℕ → ℕ
side_cover sides = 11 * side sides 1 + 5000 * side sides 2 + side sides 3 + side sides 4
