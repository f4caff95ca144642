-- Document 01, "Payment", for one guest at a seat: all money on the table, the cover, the prizes paid, what goes back, and the pay lines, read off the seated guests alone.
use Rattle.std.specs.Prelude.{Bool, cond, List, [], ◌∷◌, ◌++◌, map, ℕ, suc, ◌+◌, ltb}
use Rattle.lists.specs.Sum.{sum_of}
use Rattle.call.specs.PayLine.{PayLine}
use Rattle.options.specs.declared.Options.{Options}
use Rattle.payment.specs.declared.bank.Score.{Score}
use Rattle.table.specs.declared.Seat.{Seat}
use Rattle.table.specs.declared.Table.{Table}
use Rattle.table.specs.Seat.{purse, is_staked, laid, prizes, seat_cover}
use Rattle.table.specs.Money.{most_money}
use Rattle.close_spec.specs.PayLines.{guest_pays, line_of}

-- 14: money past 10^15, once so much more is on the table.
abbrev pub past_most_one : Table → ℕ → Bool
past_most_one t n = ltb most_money (t.tray + sum_of laid t.seats + sum_of purse t.seats + n)

-- What the tray must hold at the deal, and the prizes paid in this round.
abbrev pub cover_one : Table → ℕ
cover_one t = sum_of seat_cover t.seats

abbrev pub prizes_one : Table → ℕ
prizes_one t = sum_of (prizes t.options) t.seats

-- The lines of the seats from number i on, one for each pay of a seated guest who has staked.
unfoldable pub lines_one : Options → Score → ℕ → List Seat → List PayLine
lines_one o bank i [] = []
lines_one o bank i (s ∷ ss) = cond (is_staked s) (map (line_of i 0) (guest_pays o bank s)) [] ++ lines_one o bank (suc i) ss
