-- A guest who is not sound decides; where each is sound, what they share does.
use mathlib.Core.Path.{refl}
use mathlib.Core.Bool.{true}
use Rattle.money.specs.Sums.{seat_sums}
use Rattle.broken.proofs.seat.Guests.{Survey, of_tested, passed, failed, nothing, guest_fails, guests_pass}
use Rattle.broken.proofs.seat.SeatLook.surveyed_crowd.Goals as goal

pub returns-in_err-guests : goal.returns-in_err-guests
returns-in_err-guests c =
    let a = c.args in
    rw c.from_residual.ensures (nothing _ _ 3 (guest_fails a.self.round.options a.self.round.dealt a.self.round.up a.self.number a.self.seat.now (failed _ _ _ _ c.surveyed_guests.ensures c.in_err-guests.was)))

pub returns : goal.returns
returns c =
    let a = c.args in
    let guests : Survey = record { sound = true; sums = c.in_ok-guests.guests } in
    rw c.then_some.ensures (of_tested _ _ 3 (record { sound = c.sound_shared.result; sums = c.in_ok-guests.guests })
    (guests_pass a.self.round.options a.self.round.dealt a.self.round.up a.self.number a.self.seat.now (seat_sums a.self.round.options a.self.seat.now) guests c.sound_shared.result
    (passed _ _ _ _ _ c.surveyed_guests.ensures c.in_ok-guests.was) refl c.sound_shared.ensures))
