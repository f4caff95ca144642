-- What a display reads, it reads of what two such tables have in common: each value shown is one function of that.
use Rattle.table.specs.declared.Table.{Table}
use Rattle.display.specs.Table.{bank_shown, table_shown, turn_shown}
use Rattle.display.specs.Seat.{guest_or_empty, seat_shown}
use Rattle.display.specs.Hand.{hand_shown}
use Rattle.display.specs.InSight.{HiddenUnshown}

pub hidden_unshown : (t u : Table) → HiddenUnshown t u
unfolding bank_shown table_shown turn_shown guest_or_empty seat_shown hand_shown
hidden_unshown t u s same =
    record {
      table = rw (same, s.options, s.tray, s.seats, s.bank, s.up_card_lem, s.drawn, s.discarded);
      turn = rw (same, s.options, s.seats, s.up_card_lem);
      seat = λ i q. rw (same, s.options, s.seats);
      hand = λ i q p. rw (same, s.options, s.seats);
    }
