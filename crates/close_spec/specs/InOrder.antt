-- Request 2.3: pay lines from the left. Lines of close stand by seat, in a seat by position (request 2.8); for a guest the insurance comes first, then the side stakes by
-- kind (request 2.6), then the hands by place. With each line exactly once (EachOnce.antt) the answer of close is thereby wholly fixed.
use Rattle.std.specs.Prelude.{◌≡◌, Bool, true, not, cond, ◌&&◌, ◌||◌, List, [], ◌∷◌, ltb, eqb}
use Rattle.lists.specs.Tests.{all_of}
use Rattle.call.specs.PayLine.{PayLine}
use Rattle.options.specs.declared.Options.{Options}
use Rattle.payment.specs.declared.bank.Score.{Score}
use Rattle.payment.specs.Pays.{hand_kind}
use Rattle.table.specs.declared.Seat.{Seat}
use Rattle.close_spec.specs.PayLines.{all_lines}

-- Of one guest's lines one stands before another: an insurance before a side stake, this before one of a later kind (request 2.6), each of them before a hand, and a hand
-- before one in a later place.
abbrev pub before_of_guest : PayLine → PayLine → Bool
before_of_guest l m =
    cond (eqb m.kind hand_kind) (not (eqb l.kind hand_kind) || ltb l.place m.place)
    (not (eqb l.kind hand_kind) && ltb l.kind m.kind)

-- In a seat a line stands before another: by position, then of that guest's lines.
abbrev pub before_in_seat : PayLine → PayLine → Bool
before_in_seat l m = ltb l.position m.position || eqb l.position m.position && before_of_guest l m

-- A line stands before another: by seat, then in the seat.
abbrev pub stands_before : PayLine → PayLine → Bool
stands_before l m = ltb l.seat m.seat || eqb l.seat m.seat && before_in_seat l m

-- Each line stands before all that follow it.
unfoldable pub in_order : List PayLine → Bool
in_order [] = true
in_order (l ∷ ls) = all_of (stands_before l) ls && in_order ls

abbrev pub InOrder : Options → Score → List Seat → Type 0
InOrder o bank seats = in_order (all_lines o bank 0 seats) ≡ true
