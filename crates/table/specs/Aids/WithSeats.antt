-- The table with other seats, as the loops over the seats leave it.
use Rattle.std.specs.Prelude.{List}
use Rattle.table.specs.declared.Seat.{Seat}
use Rattle.table.specs.declared.Table.{Table}
use Rattle.table.specs.Table.{make_table}

abbrev pub with_seats : Table → List Seat → Table
with_seats t seats = make_table t.options t.tray seats t.bank t.shoe
