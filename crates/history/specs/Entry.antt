-- Document 01, "The history": what it reads, the accepted calls with their seats, positions (request 2.8) and amounts, each with the order that was lent beside it. Newest first.
use Rattle.std.specs.Prelude.{Bool, ◌&&◌, ◌||◌, List, ℕ, ◌+◌, leb, eqb}
use Rattle.call.specs.declared.Call.{Call}
use Rattle.call.specs.Call.{kind, seat, position, amount}

pub record Entry : Type 0 where
  pub call : Call
  pub order : List ℕ

-- The kind of the call, and whether it names the seat.
abbrev pub is_kind : ℕ → Entry → Bool
is_kind k e = eqb (kind e.call) k

abbrev pub is_of : ℕ → Entry → Bool
is_of i e = eqb (seat e.call) i

-- Whether it names the guest in that position of the seat.
abbrev pub is_by : ℕ → ℕ → Entry → Bool
is_by i p e = is_of i e && eqb (position e.call) p

abbrev pub is_fill : Entry → Bool
is_fill e = is_kind 1 e

abbrev pub is_credit : Entry → Bool
is_credit e = is_kind 2 e

abbrev pub is_buy : Entry → Bool
is_buy e = is_kind 3 e

abbrev pub is_cash : Entry → Bool
is_cash e = is_kind 4 e

abbrev pub is_stake : Entry → Bool
is_stake e = is_kind 5 e

abbrev pub is_deal : Entry → Bool
is_deal e = is_kind 6 e

abbrev pub is_insure : Entry → Bool
is_insure e = is_kind 7 e

abbrev pub is_stand : Entry → Bool
is_stand e = is_kind 8 e

abbrev pub is_draw : Entry → Bool
is_draw e = is_kind 9 e

abbrev pub is_double : Entry → Bool
is_double e = is_kind 10 e

abbrev pub is_split : Entry → Bool
is_split e = is_kind 11 e

abbrev pub is_surrender : Entry → Bool
is_surrender e = is_kind 12 e

abbrev pub is_even : Entry → Bool
is_even e = is_kind 13 e

abbrev pub is_five : Entry → Bool
is_five e = is_kind 14 e

abbrev pub is_close : Entry → Bool
is_close e = is_kind 15 e

abbrev pub is_void : Entry → Bool
is_void e = is_kind 16 e

abbrev pub is_load : Entry → Bool
is_load e = is_kind 17 e

-- A side stake of kind k (request 2.6), and one of any kind.
abbrev pub is_side_of : ℕ → Entry → Bool
is_side_of k e = is_kind (17 + k) e

abbrev pub is_side : Entry → Bool
is_side e = leb 18 (kind e.call) && leb (kind e.call) 21

-- The decisions that draw a card, and all seven.
abbrev pub is_drawing : Entry → Bool
is_drawing e = is_draw e || is_double e || is_split e

abbrev pub is_decision : Entry → Bool
is_decision e = is_stand e || is_surrender e || is_even e || is_five e || is_drawing e

-- A round ends with close or void.
abbrev pub is_end : Entry → Bool
is_end e = is_close e || is_void e

-- The amount of the call.
abbrev pub amount_of : Entry → ℕ
amount_of e = amount e.call
