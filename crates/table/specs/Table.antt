-- Document 01, "The seventeen calls": the table, its parts replaced one at a time, and its views: seats, hands, the bank's cards, the shoe.
use Rattle.std.specs.Prelude.{Bool, List, map, ℕ, ltb, leb, length, get_or, set}
use Rattle.lists.specs.Tests.{any_of}
use Rattle.lists.specs.Flat.{flat}
use Rattle.cards.specs.declared.hand.Hand.{Hand}
use Rattle.cards.specs.Hand.{cards_of}
use Rattle.options.specs.declared.Options.{Options}
use Rattle.rules.specs.SeatHand.{Played}
use Rattle.table.specs.declared.Seat.{Seat}
use Rattle.table.specs.declared.Shoe.{Shoe}
use Rattle.table.specs.declared.Table.{Table}
use Rattle.table.specs.Guest.{with_purse}
use Rattle.table.specs.Seat.{missing_seat, guest_at, with_guest, is_staked, hands, seat_cards}
use Rattle.table.specs.Shoe as Shoes

abbrev pub make_table : Options → ℕ → List Seat → Hand → Shoe → Table
make_table options tray seats bank shoe = record { options = options; tray = tray; seats = seats; bank = bank; shoe = shoe }

-- The table with another tray, another seat or another shoe.
abbrev pub with_tray : Table → ℕ → Table
with_tray t tray = make_table t.options tray t.seats t.bank t.shoe

abbrev pub with_seat : Table → ℕ → Seat → Table
with_seat t i s = make_table t.options t.tray (set t.seats i s) t.bank t.shoe

abbrev pub with_shoe : Table → Shoe → Table
with_shoe t shoe = make_table t.options t.tray t.seats t.bank shoe

-- The seat of that number; a seat that the table does not have holds nothing.
abbrev pub seat_at : Table → ℕ → Seat
seat_at t i = get_or t.seats i missing_seat

-- The guest in that position of it (request 2.8).
abbrev pub guest_of : Table → ℕ → ℕ → Seat
guest_of t i p = guest_at (seat_at t i) p

-- 8: no such seat. The option says how many there are.
abbrev pub no_such_seat : Table → ℕ → Bool
no_such_seat t j = leb t.options.seats j

-- The table with another purse of that guest.
abbrev pub with_purse_at : Table → ℕ → ℕ → ℕ → Table
with_purse_at t j p purse = with_seat t j (with_guest (seat_at t j) p (with_purse (guest_of t j p).money purse))

-- The hands of each seat, by seat and place.
abbrev pub seats_hands : Table → List (List Played)
seats_hands t = map hands t.seats

-- The cards of all seats' hands, by seat and place.
abbrev pub hand_cards : Table → List ℕ
hand_cards t = flat seat_cards t.seats

-- The bank's cards; a round is dealt while it has one, and the first is the up card.
abbrev pub bank_cards : Table → List ℕ
bank_cards t = cards_of t.bank

abbrev pub is_dealt : Table → Bool
is_dealt t = ltb 0 (length (bank_cards t))

abbrev pub up : Table → ℕ
up t = get_or (bank_cards t) 0 0

-- Some seat has a stake.
abbrev pub some_staked : Table → Bool
some_staked t = any_of is_staked t.seats

-- The loaded order, its cards that are drawn, those that are left, and their number; the discards.
abbrev pub table_order : Table → List ℕ
table_order t = Shoes.order_of t.options.decks t.shoe

abbrev pub table_drawn : Table → List ℕ
table_drawn t = Shoes.drawn_of t.options.decks t.shoe

abbrev pub table_shoe : Table → List ℕ
table_shoe t = Shoes.left_of t.options.decks t.shoe

abbrev pub cards_left : Table → ℕ
cards_left t = Shoes.left t.options.decks t.shoe

abbrev pub table_discards : Table → List ℕ
table_discards t = Shoes.discards_of t.shoe
