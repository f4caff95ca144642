-- A guest is the seat with that guest's money.
use mathlib.Core.Path.{sym, ◌∙◌, ap}
use Rattle.table.specs.Seat.{with_money}
use Rattle.table.proofs.Guests.{guest-is}
use Rattle.state.proofs.seat.guest_at.Goals as goal

pub returns : goal.returns
returns c = ap (with_money c.args.s.now) c.money_at.ensures ∙ sym (guest-is c.args.s.now c.args.p)
