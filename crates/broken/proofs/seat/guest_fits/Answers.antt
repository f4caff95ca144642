-- A guest has at most four hands, and the stakes have 32 bits.
use mathlib.Core.Path.{◌≡◌}
use Prim.Native.Nat.{ℕ}
use native.Mathlib.Omega.{arith}
use lib.ListN.{length, get_or}
use mir.Syntax.{w32}
use mir.Val.{Fits}
use Rattle.money.proofs.sums.Pass.{guest-within}
use borrow.Author.Rules.{rules}
use Rattle.broken.proofs.seat.guest_fits.Goals as goal

pub returns : goal.returns
returns c =
    let s = c.args.s in
    let full : length s.hands.places ≡ 4 = search rules in
    let side : (k : ℕ) → Fits w32 (get_or s.money.sides k 0) = λ k. search rules in
    guest-within c.args.o s full (omega arith) (omega arith) (λ k. omega (arith, (side k).fits))
