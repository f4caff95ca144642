-- What an accepted split gives its effect: the seat has at most the option's hands, its purses pay, and the order has the two cards.
use mathlib.Core.Path.{◌≡◌}
use native.Mathlib.Omega.{arith}
use Rattle.call.specs.declared.At.{At}
use Rattle.table.specs.declared.Table.{Table}
use Rattle.table.specs.Table.{seat_at, is_dealt, up}
use Rattle.table.proofs.Facts.{unbroken, sound_options, decks_416, most_many}
use Rattle.decisions_spec.proofs.Split.{SplitAccepted}
use Rattle.decisions.specs.declared.turn.HandInTurn.{HandInTurn}
use Rattle.decisions.specs.InTurn.{InTurn}
use Rattle.draw.specs.Aids.Splits.{Splits}

pub splits : (t : Table) (at : At) (h : HandInTurn) → h.guest ≡ at → InTurn t h → SplitAccepted t at.seat → Splits t h
splits t at h is turn a =
    let sound = unbroken t a.turn.acting.unbroken in
    let most = (sound_options t sound).hands_most in
    record {
      turn = turn;
      pays = rw is (record { room = most_many t.options (is_dealt t) (up t) at.seat (seat_at t at.seat) most (sound.seats at.seat a.turn.acting.nine); enough = a.enough });
      two_left = omega (arith, a.left, decks_416 t sound);
    }
