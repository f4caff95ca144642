-- `with_place` stores into the array, and past it changes nothing, as `set` does.
use mathlib.Core.Path.{◌≡◌}
use Prim.Native.Nat.{◌≤◌}
use native.Mathlib.Omega.{arith}
use lib.ListN.{length}
use lib.Seq.{set_out}
use borrow.Author.Rules.{rules}
use Rattle.decisions.proofs.turn.with_place.Goals as goal

pub returns-then-p-ge4 : goal.returns-then-p-ge4
returns-then-p-ge4 c =
    let s = c.args.s in
    let full : length s.hands.places ≡ 4 = search rules in
    let past : length s.hands.places ≤ c.args.p = omega arith in
    rw set_out
