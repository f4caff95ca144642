-- Why it is refused, or the effect: an accepted side stake's kind is one of the four, and it is within its limit.
use mathlib.Core.Path.{sym, ◌∙◌}
use Rattle.answer.proofs.moved.Laws.{seat_moves, money_read}
use Rattle.answer.proofs.outcome.Laws.{refused-seat, accepted}
use Rattle.cashier_spec.specs.Side.{side_effect}
use Rattle.cashier_spec.proofs.Side.{side-accepted}
use Rattle.cashier.proofs.side.side.Goals as goal

pub returns-in_err-guest : goal.returns-in_err-guest
returns-in_err-guest c = refused-seat _ _ _ _ _ _ c.from_residual.ensures.1 c.in_err-guest.ensures.number

pub sided-requires : goal.sided-requires
sided-requires c =
    let a = side-accepted c.args.t.now c.args.at.seat c.args.at.position c.args.kind c.args.n (sym c.in_ok-guest.ensures.number) in
    (a.least, a.most, a.permitted)

pub returns : goal.returns
unfolding side_effect
returns c =
    accepted _ _ _ c.in_ok-guest.ensures.number
    (seat_moves c.args.t.now _ (rw (c.table-t.ensures.same, c.in_ok-guest.ensures.guest) at c.money_moved.ensures) ∙ simp (c.sided.ensures, money_read _ _ _ _ c.table-t.ensures.same c.in_ok-guest.ensures.guest c.guest_money.ensures))
