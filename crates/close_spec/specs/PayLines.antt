-- Document 01, "Payment", and requests 2.6 and 2.8: one pay line (seat, position, place, hand, insurance or side stake, net; place 0 where it is no hand) for each hand, insurance
-- and side stake of each guest who has staked.
-- Request 2.3: they stand by seat, in a seat by position; for a guest the insurance first, then the side stakes by kind, then the hands by place.
use Rattle.std.specs.Prelude.{cond, List, [], ◌∷◌, ◌++◌, map, ℕ, suc}
use Rattle.call.specs.PayLine.{PayLine, line}
use Rattle.options.specs.declared.Options.{Options}
use Rattle.payment.specs.declared.bank.Score.{Score}
use Rattle.payment.specs.Pay.{net}
use Rattle.payment.specs.Pays.{Due, pays_of}
use Rattle.table.specs.declared.Seat.{Seat}
use Rattle.table.specs.Seat.{guest_at, is_staked, bets_of}

-- All that is paid to a guest.
abbrev pub guest_pays : Options → Score → Seat → List Due
guest_pays o bank s = pays_of o bank (bets_of s)

-- The line of a pay.
abbrev pub line_of : ℕ → ℕ → Due → PayLine
line_of seat position d = line seat position d.place d.kind (net d.pay)

-- The lines of the guest in that position; one who has not staked has none.
unfoldable pub guest_lines : Options → Score → ℕ → ℕ → Seat → List PayLine
guest_lines o bank seat position s = cond (is_staked s) (map (line_of seat position) (guest_pays o bank s)) []

unfoldable pub seat_lines : Options → Score → ℕ → Seat → List PayLine
seat_lines o bank seat s = guest_lines o bank seat 0 (guest_at s 0) ++ guest_lines o bank seat 1 (guest_at s 1) ++ guest_lines o bank seat 2 (guest_at s 2)

-- The lines of the seats from number i on.
unfoldable pub all_lines : Options → Score → ℕ → List Seat → List PayLine
all_lines o bank i [] = []
all_lines o bank i (s ∷ ss) = seat_lines o bank i s ++ all_lines o bank (suc i) ss
