-- The three guests together are the seat's.
use mathlib.Core.Path.{refl}
use mathlib.Core.Bool.{true}
use Rattle.table.specs.Seat.{guest_at}
use Rattle.broken.proofs.seat.Guests.{Survey, of_tested, passed, failed, nothing, three, one_fails}
use Rattle.broken.proofs.seat.SeatLook.surveyed_guests.Goals as goal

pub returns-in_err-seated : goal.returns-in_err-seated
returns-in_err-seated c =
    let a = c.args in
    rw c.from_residual.ensures (nothing _ _ 3 (one_fails a.self.round.options a.self.round.dealt a.self.round.up a.self.number a.self.seat.now (failed _ _ _ _ c.surveyed_guest.ensures c.in_err-seated.was)))

pub returns : goal.returns
unfolding guest_at
returns c =
    let a = c.args in
    let first : Survey = record { sound = true; sums = c.in_ok-seated.seated } in
    let second : Survey = record { sound = true; sums = c.in_ok-one.one } in
    let third : Survey = record { sound = true; sums = c.in_ok-two.two } in
    let both : Survey = record { sound = true; sums = c.plus.result } in
    let all : Survey = record { sound = true; sums = c.plus-2.result } in
    of_tested _ _ 3 all
    (three a.self.round.options a.self.round.dealt a.self.round.up a.self.number a.self.seat.now first second third both all
    (passed _ _ _ _ _ c.surveyed_guest.ensures c.in_ok-seated.was)
    (passed _ _ _ _ _ c.surveyed_other.ensures c.in_ok-one.was)
    (passed _ _ _ _ _ c.surveyed_other-2.ensures c.in_ok-two.was)
    (refl, c.plus.ensures) (refl, c.plus-2.ensures))
