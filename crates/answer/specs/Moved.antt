-- Document 01, "The seventeen calls": what an accepted call of one seat leaves, without the rest of the table: the seat after it, the tray, and how many cards are drawn.
use Rattle.std.specs.Prelude.{ℕ, set, Result, Ok, Err}
use Rattle.call.specs.declared.refusal.Refusal.{Refusal}
use Rattle.call.specs.Refusal.{number_of}
use Rattle.table.specs.declared.Seat.{Seat}
use Rattle.table.specs.declared.Table.{Table}
use Rattle.table.specs.Shoe.{make_shoe}
use Rattle.table.specs.Table.{make_table}
use Rattle.answer.specs.declared.moved.Moved.{Moved}
use Rattle.answer.specs.declared.outcome.Outcome.{Outcome}
use Rattle.answer.specs.Outcome.{make_outcome}

abbrev pub make_moved : ℕ → Seat → ℕ → ℕ → Moved
make_moved tray seat drawn hand = record { tray = tray; seat = seat; drawn = drawn; hand = hand }

-- The table t with what the call of its seat j has moved.
abbrev pub moved_table : Table → ℕ → Moved → Table
moved_table t j m =
    make_table t.options m.tray (set t.seats j m.seat) t.bank
    (make_shoe t.shoe.order m.drawn t.shoe.discards t.shoe.discarded t.shoe.begun)

-- The outcome of that call: a refused one has moved nothing.
abbrev pub moved_outcome : Table → ℕ → Result Moved Refusal → Outcome
moved_outcome t j (Ok m) = make_outcome 0 (moved_table t j m)
moved_outcome t j (Err why) = make_outcome (number_of why) t
