-- `hand_lines` goes place by place: before each turn the first hands have their lines, one each.
use mathlib.Core.List.{map}
use lib.ListN.{take}
use Rattle.rules.specs.SeatHand.{hands_of}
use Rattle.payment.specs.Pays.{hand_pays}
use Rattle.close_spec.specs.PayLines.{line_of}
use Rattle.close.specs.Aids.LinesAt.{LinesPut}
use Rattle.close.proofs.paying.Payment.hand_lines.Given as goal

abbrev pub invariant-loop-place : goal.invariant-loop-place
invariant-loop-place l =
    LinesPut l.initial.lines (map (line_of l.fn.guest.seat l.fn.guest.position) (hand_pays l.fn.self.options l.fn.self.bank l.fn.stake 0 (take l.place (hands_of l.fn.hands)))) l.lines
