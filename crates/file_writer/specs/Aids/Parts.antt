-- The parts of a call without a seat, of one with a seat, and of a side stake.
use Rattle.std.specs.Prelude.{Some, None, cond, ◌&&◌, ℕ, ◌+◌, leb}
use Rattle.call.specs.declared.At.{At}
use Rattle.file_writer.specs.declared.codes.Parts.{Parts}

abbrev pub house_parts : ℕ → ℕ → Parts
house_parts kind amount = record { kind = Some kind; seat = 0; position = 0; amount = amount }

abbrev pub guest_parts : ℕ → At → ℕ → Parts
guest_parts kind at amount = record { kind = Some kind; seat = at.seat; position = at.position; amount = amount }

abbrev pub side_parts : At → ℕ → ℕ → Parts
side_parts at kind amount = record { kind = cond (leb 1 kind && leb kind 4) (Some (17 + kind)) None; seat = at.seat; position = at.position; amount = amount }
