-- The lengths of a table's arrays, as its structs declare them. The code's types give these; a definition over lists has to say them.
use Rattle.std.specs.Prelude.{◌≡◌, ℕ, ◌<◌, length, get_or}
use Rattle.table.specs.declared.Seat.{Seat}
use Rattle.table.specs.declared.Table.{Table}
use Rattle.table.specs.Seat.{missing_place, guest_at}
use Rattle.table.specs.Table.{seat_at}

pub record ShapedSeat (s : Seat) : Type 0 where
  pub four_places : length s.hands.places ≡ 4
  pub two_others : length s.others ≡ 2
  pub four_sides : (p : ℕ) → p < 3 → length (guest_at s p).money.sides ≡ 4
  pub three_first : length s.first ≡ 3
  pub twenty_cards : (p : ℕ) → p < 4 → length (get_or s.hands.places p missing_place).hand.cards ≡ 20

pub record Shaped (t : Table) : Type 0 where
  pub nine_seats_lem : length t.seats ≡ 9
  pub seats : (i : ℕ) → i < 9 → ShapedSeat (seat_at t i)
  pub bank : length t.bank.cards ≡ 20
  pub order : length t.shoe.order ≡ 416
  pub discards : length t.shoe.discards ≡ 416
