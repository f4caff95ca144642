-- A name says what it was made of: seat, place, kind and position have a byte each.
use native.Mathlib.Omega.{arith}
use Rattle.call.specs.PayLine.{NamesUnpack}

pub names_unpack : NamesUnpack
names_unpack seat position place kind s q p k = record { seat_is = omega arith; position_is = omega arith; place_is = omega arith; kind_is = omega arith }
