-- Request 2.14: "no seat can hold a table for good": a round can always go on. On a table that is not broken, with a dealt round: while a hand waits, the deciding guest of the seat whose turn it is may
-- stand; while none waits, close is accepted or gives 18, and then void is accepted.
use Rattle.std.specs.Prelude.{◌≡◌, Bool, true, false, cond, List, ℕ, eqb}
use Rattle.rules.specs.Turn.{some_waits, turn_seat}
use Rattle.call.specs.declared.At.{At}
use Rattle.call.specs.declared.Call.TheVariants.{Stand, Close, Void}
use Rattle.table.specs.declared.Table.{Table}
use Rattle.table.specs.Seat.{decider}
use Rattle.table.specs.Table.{seat_at, seats_hands, is_dealt, up}
use Rattle.books.specs.Laws.{Whole}
use Rattle.engine.specs.Step.{number}

-- A hand waits; the deciding guest of the seat whose turn it is.
abbrev pub waiting : Table → Bool
waiting t = some_waits t.options (up t) (seats_hands t)

abbrev pub in_turn : Table → At
in_turn t =
    let seat = turn_seat t.options (up t) (seats_hands t) in
    record { seat = seat; position = decider t.options (seat_at t seat) }

pub record GoesOn (t : Table) (lent : List ℕ) : Type 0 where
  pub stand : waiting t ≡ true → number t (Stand (in_turn t)) lent ≡ 0
  pub close : waiting t ≡ false → number t Close lent ≡ cond (eqb (number t Close lent) 18) 18 0
  pub void : number t Void lent ≡ 0

abbrev pub CanGoOn : Type 0
CanGoOn = (t : Table) (lent : List ℕ) → Whole t → is_dealt t ≡ true → GoesOn t lent
