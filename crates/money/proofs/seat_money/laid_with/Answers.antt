-- A seat has no hand exactly if its count is 0; else the wagers, of at most eight stakes of 32 bits, leave room for the insurance and the side stakes.
use mathlib.Core.Path.{◌≡◌}
use Prim.Native.Nat.{◌*◌}
use native.Mathlib.Omega.{arith}
use borrow.Author.Tests.{eq-eqb, ne_eqb}
use lib.ListN.{length}
use Rattle.payment.specs.Wager.{wager}
use Rattle.payment.proofs.Bounds.{wager_bounds}
use Rattle.table.specs.Seat.{laid}
use Rattle.money.proofs.seat_money.Hands.{no_hand, hands_most}
use borrow.Author.Rules.{rules}
use Rattle.money.proofs.seat_money.laid_with.Goals as goal

pub returns-then-s-eq0 : goal.returns-then-s-eq0
unfolding laid
returns-then-s-eq0 c =
    let s = c.args.s in
    let full : length s.hands.places ≡ 4 = search rules in
    simp (no_hand s.hands full, eq-eqb _ _ c.if-s-eq0.true) (omega (arith, c.all_sides-beside.ensures.same))

pub overflow_add-result-else-s-eq0 : goal.overflow_add-result-else-s-eq0
overflow_add-result-else-s-eq0 c =
    let s = c.args.s in
    let full : length s.hands.places ≡ 4 = search rules in
    omega (arith, c.requires, hands_most (wager s.money.stake) s.hands full (2 * s.money.stake) (λ h. (wager_bounds s.money.stake h).1))

pub overflow_add-result-else-s-eq0-2 : goal.overflow_add-result-else-s-eq0-2
overflow_add-result-else-s-eq0-2 c =
    let s = c.args.s in
    let full : length s.hands.places ≡ 4 = search rules in
    omega (arith, c.requires, hands_most (wager s.money.stake) s.hands full (2 * s.money.stake) (λ h. (wager_bounds s.money.stake h).1), c.all_sides-beside.ensures.small)

pub returns-else-s-eq0 : goal.returns-else-s-eq0
unfolding laid
returns-else-s-eq0 c =
    let s = c.args.s in
    let full : length s.hands.places ≡ 4 = search rules in
    simp (no_hand s.hands full, ne_eqb _ _ c.if-s-eq0.false) (omega (arith, c.requires, c.all_sides-beside.ensures.same))
