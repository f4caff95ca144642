-- The sums of a guest whose hands are known; with stakes and insurances of 32 bits all but the cut purse are far below the limit.
use mathlib.Core.Path.{◌≡◌, refl}
use Prim.Native.Nat.{ℕ}
use native.Mathlib.Omega.{arith}
use lib.ListN.{length, get_or}
use mir.Syntax.{w32}
use mir.Val.{Fits}
use Rattle.money.proofs.sums.Pass.{guest-within}
use borrow.Author.Rules.{rules}
use Rattle.table.specs.Seat.{with_money, prizes}
use Rattle.money.proofs.sums.money_sums.Goals as goal

pub returns-clause-same : goal.returns-clause-same
unfolding prizes
returns-clause-same c = rw (c.played_sums.ensures, c.won-prizes.ensures) refl

pub returns-clause-small : goal.returns-clause-small
unfolding prizes
returns-clause-small c =
    let s = with_money c.args.s.now c.args.m in
    let full : length s.hands.places ≡ 4 = c.places_shape.ensures in
    let side : (k : ℕ) → Fits w32 (get_or s.money.sides k 0) = λ k. search rules in
    rw (c.played_sums.ensures, c.won-prizes.ensures) (guest-within c.args.o s full (omega arith) (omega arith) (λ k. omega (arith, (side k).fits)))
