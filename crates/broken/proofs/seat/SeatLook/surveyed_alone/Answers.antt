-- The guest's sums are those of the hands looked at; the test is that of the guest and the hands, which is the seat's where nobody bets beside.
use Rattle.broken.proofs.seat.Guests.{Survey, of_tested, by_look, lone-seat}
use Rattle.broken.proofs.seat.SeatLook.surveyed_alone.Goals as goal

pub sound_alone-requires : goal.sound_alone-requires
sound_alone-requires c =
    let a = c.args in
    by_look a.self.round.options a.self.round.dealt a.self.round.up a.self.number a.self.seat.now a.self.look c.played_sums-sums.result a.self.looked c.played_sums-sums.ensures

pub returns : goal.returns
returns c =
    let a = c.args in
    let sums = c.played_sums-sums in
    let v : Survey = record { sound = c.sound_alone.result; sums = sums.result } in
    rw c.then_some.ensures (of_tested _ _ 3 v
    (lone-seat a.self.round.options a.self.round.dealt a.self.round.up a.self.number a.self.seat.now v c.requires c.sound_alone.ensures
    (by_look a.self.round.options a.self.round.dealt a.self.round.up a.self.number a.self.seat.now a.self.look sums.result a.self.looked sums.ensures)
    c.guest_fits.ensures))
