-- Document 01, "Payment", and request 2.6: a pay line of close (seat, position (request 2.8), place, what it is for: hand, insurance or side stake, and net), and its name as one number.
use Rattle.std.specs.Prelude.{◌≡◌, ℕ, ◌+◌, ◌*◌, ◌/◌, ◌%◌, ◌<◌, ℤ}

-- The net goes to the guest in that position of the seat. The place is 0 where the line is for no hand.
pub record PayLine : Type 0 where
  pub seat : ℕ
  pub position : ℕ
  pub place : ℕ
  pub kind : ℕ
  pub net : ℤ

abbrev pub line : ℕ → ℕ → ℕ → ℕ → ℤ → PayLine
line seat position place kind n = record { seat = seat; position = position; place = place; kind = kind; net = n }

-- Seat, place, kind and position in one number, a byte each.
abbrev pub line_name : ℕ → ℕ → ℕ → ℕ → ℕ
line_name seat position place kind = seat + 256 * place + 65536 * kind + 16777216 * position

abbrev pub name_of : PayLine → ℕ
name_of l = line_name l.seat l.position l.place l.kind

-- What a name says.
abbrev pub line_seat : ℕ → ℕ
line_seat name = name % 256

abbrev pub line_place : ℕ → ℕ
line_place name = name / 256 % 256

abbrev pub line_kind : ℕ → ℕ
line_kind name = name / 65536 % 256

abbrev pub line_position : ℕ → ℕ
line_position name = name / 16777216 % 256

-- A name says what it was made of.
pub record Named (seat position place kind : ℕ) : Type 0 where
  pub seat_is : line_seat (line_name seat position place kind) ≡ seat
  pub position_is : line_position (line_name seat position place kind) ≡ position
  pub place_is : line_place (line_name seat position place kind) ≡ place
  pub kind_is : line_kind (line_name seat position place kind) ≡ kind

abbrev pub NamesUnpack : Type 0
NamesUnpack = (seat position place kind : ℕ) → seat < 256 → position < 256 → place < 256 → kind < 256 → Named seat position place kind
