-- The sums over the seats that the calls ask for (document 01, "Payment" and numbers 14 and 16), as one value.
use Rattle.std.specs.Prelude.{List, ℕ, ◌+◌, min}
use Rattle.lists.specs.Sum.{sum_of}
use Rattle.options.specs.declared.Options.{Options}
use Rattle.table.specs.declared.Seat.{Seat}
use Rattle.table.specs.declared.Table.{Table}
use Rattle.table.specs.Seat.{guest_at, over_guests, purse, stake, laid, prizes, seat_cover}
use Rattle.table.specs.Money.{most_money}
use Rattle.money.specs.declared.sums.Sums.{Sums}

abbrev pub make_sums : ℕ → ℕ → ℕ → ℕ → ℕ → Sums
make_sums stakes laid prizes cover purses = record { stakes = stakes; laid = laid; prizes = prizes; cover = cover; purses = purses }

abbrev pub no_sums : Sums
no_sums = make_sums 0 0 0 0 0

-- A purse cut one past the limit: a sum of purses so cut is past the limit exactly if the sum of the purses is.
abbrev pub capped : ℕ → ℕ
capped purse = min purse (most_money + 1)

-- The sums over a list of seats, and of a table.
abbrev pub sums_over : Options → List Seat → Sums
sums_over o seats =
    make_sums (sum_of (over_guests stake) seats) (sum_of (over_guests laid) seats) (sum_of (over_guests (prizes o)) seats) (sum_of (over_guests seat_cover) seats) (sum_of (over_guests (λ s. capped (purse s))) seats)

abbrev pub table_sums : Table → Sums
table_sums t = sums_over t.options t.seats

-- The sums of one guest, and those of two groups of guests together.
abbrev pub guest_sums : Options → Seat → Sums
guest_sums o s = make_sums (stake s) (laid s) (prizes o s) (seat_cover s) (capped (purse s))

abbrev pub plus_sums : Sums → Sums → Sums
plus_sums a b = make_sums (a.stakes + b.stakes) (a.laid + b.laid) (a.prizes + b.prizes) (a.cover + b.cover) (a.purses + b.purses)

-- The sums of a seat: of its three guests.
abbrev pub seat_sums : Options → Seat → Sums
seat_sums o s = plus_sums (plus_sums (guest_sums o (guest_at s 0)) (guest_sums o (guest_at s 1))) (guest_sums o (guest_at s 2))
