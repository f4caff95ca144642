-- Why it is refused, or the effect: the amount is at most the option's part of the stake.
use mathlib.Core.Path.{sym, ◌∙◌, ap}
use native.Mathlib.Omega.{arith}
use Rattle.table.specs.declared.Money.{Money}
use Rattle.table.specs.Seat.{stake}
use Rattle.table.specs.Table.{guest_of}
use Rattle.table.proofs.Facts.{insurance_most}
use Rattle.answer.proofs.moved.Laws.{seat_moves, money_read}
use Rattle.answer.proofs.outcome.Laws.{refused-seat, accepted}
use Rattle.decisions_spec.specs.Insure.{insure_effect}
use Rattle.decisions_spec.proofs.Insure.{insure-accepted}
use Rattle.decisions.proofs.insure.insure.Goals as goal

pub returns-in_err-guest : goal.returns-in_err-guest
returns-in_err-guest c = refused-seat _ _ _ _ _ _ c.from_residual.ensures.1 c.in_err-guest.ensures.number

pub insured-requires : goal.insured-requires
insured-requires c =
    let t = c.args.t.now in
    let a = insure-accepted t c.args.at.seat c.args.at.position c.args.n (sym c.in_ok-guest.ensures.number) in
    let same = money_read _ _ _ _ c.table-t.ensures.same c.in_ok-guest.ensures.guest c.guest_money.ensures in
    omega (arith, ap (λ (m : Money). m.stake) same, insurance_most t.options (stake (guest_of t c.args.at.seat c.args.at.position)) c.args.n a.permitted)

pub returns : goal.returns
unfolding insure_effect
returns c =
    accepted _ _ _ c.in_ok-guest.ensures.number
    (seat_moves c.args.t.now _ (rw (c.table-t.ensures.same, c.in_ok-guest.ensures.guest) at c.money_moved.ensures)
    ∙ simp (c.insured.ensures, money_read _ _ _ _ c.table-t.ensures.same c.in_ok-guest.ensures.guest c.guest_money.ensures))
