-- Why it is refused, or the effect; the card of an accepted leaving sits at one of the 27 places.
use mathlib.Core.Path.{◌≡◌, sym, ap₂}
use native.Mathlib.Omega.{arith}
use lib.ListN.{length}
use borrow.Author.Rules.{rules}
use Rattle.host_spec.specs.Cards.{with_card}
use Rattle.host.proofs.Outcomes.{host_met, host_accepted_lem}
use Rattle.host.proofs.leave.Laws.{left_inside}
use Rattle.host.proofs.leave.leave.Goals as goal

pub returns-in_err-place : goal.returns-in_err-place
returns-in_err-place c = host_met _ _ _ _ _ c.from_residual.ensures.1 c.in_err-place.ensures.number

pub bounds-next-place : goal.bounds-next-place
bounds-next-place c =
    let full : length c.args.h.cards ≡ 27 = search rules in
    omega (arith, c.in_ok-place.ensures.found, left_inside c.args.h c.args.card full (sym c.in_ok-place.ensures.number))

pub offset_bounds-next-place : goal.offset_bounds-next-place
offset_bounds-next-place c =
    let full : length c.args.h.cards ≡ 27 = search rules in
    omega (arith, c.in_ok-place.ensures.found, left_inside c.args.h c.args.card full (sym c.in_ok-place.ensures.number))

pub returns : goal.returns
returns c = host_accepted_lem _ _ _ _ c.in_ok-place.ensures.number (ap₂ (with_card c.args.h) c.in_ok-place.ensures.found c.no_card.ensures)
