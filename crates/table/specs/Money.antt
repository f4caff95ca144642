-- Document 01, "House options" (all money on the table is at most 10^15) and "Payment": the money on the table, as sums over the seats and their guests (request 2.8).
use Rattle.std.specs.Prelude.{Bool, ℕ, ◌+◌, ltb}
use Rattle.lists.specs.Sum.{sum_of}
use Rattle.table.specs.declared.Table.{Table}
use Rattle.table.specs.Seat.{over_guests, purse, laid, prizes, seat_cover}

-- All money on the table is at most 10^15.
abbrev pub most_money : ℕ
most_money = 1000000000000000

-- What lies on the layout, and what is in the purses.
abbrev pub layout : Table → ℕ
layout t = sum_of (over_guests laid) t.seats

abbrev pub purses : Table → ℕ
purses t = sum_of (over_guests purse) t.seats

abbrev pub all_money : Table → ℕ
all_money t = t.tray + layout t + purses t

-- 14: money past 10^15, once so much more is on the table.
abbrev pub past_most_money : Table → ℕ → Bool
past_most_money t n = ltb most_money (all_money t + n)

-- The prizes paid in this round, and what the tray must hold at the deal: 32 × all stakes and what the side stakes can win.
abbrev pub all_prizes : Table → ℕ
all_prizes t = sum_of (over_guests (prizes t.options)) t.seats

abbrev pub all_cover : Table → ℕ
all_cover t = sum_of (over_guests seat_cover) t.seats
