-- Why it is refused, or the effect: an accepted stake is no larger than an option can be.
use mathlib.Core.Path.{sym, ◌∙◌}
use Rattle.answer.proofs.moved.Laws.{seat_moves, money_read}
use Rattle.answer.proofs.outcome.Laws.{refused-seat, accepted}
use Rattle.cashier_spec.specs.Stake.{stake_effect}
use Rattle.cashier_spec.proofs.Stake.{stake_fits}
use Rattle.cashier.proofs.stake.stake.Goals as goal

pub returns-in_err-guest : goal.returns-in_err-guest
returns-in_err-guest c = refused-seat _ _ _ _ _ _ c.from_residual.ensures.1 c.in_err-guest.ensures.number

pub staked-requires : goal.staked-requires
staked-requires c = stake_fits c.args.t.now c.args.at.seat c.args.at.position c.args.n (sym c.in_ok-guest.ensures.number)

pub returns : goal.returns
unfolding stake_effect
returns c =
    accepted _ _ _ c.in_ok-guest.ensures.number
    (seat_moves c.args.t.now _ (rw (c.table-t.ensures.same, c.in_ok-guest.ensures.guest) at c.money_moved.ensures) ∙ simp (c.staked.ensures, money_read _ _ _ _ c.table-t.ensures.same c.in_ok-guest.ensures.guest c.guest_money.ensures))
