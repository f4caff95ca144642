-- A call taken apart, by the definitions of its parts; a side stake that has none of its four kinds has no kind in a file.
use Rattle.std.specs.Prelude.{Some, None, cond}
use Rattle.call.specs.declared.Call.{Call}
use Rattle.call.specs.Call.{kind, seat, position, amount}
use Rattle.file_spec.specs.File.{known_kind}
use Rattle.file_writer.specs.declared.codes.Parts.{Parts}

abbrev pub parts_of : Call → Parts
parts_of c = record { kind = cond (known_kind c) (Some (kind c)) None; seat = seat c; position = position c; amount = amount c }
