-- The drawn cards are copied in front of what the discards hold.
use mathlib.Core.Path.{◌≡◌, refl, subst}
use mathlib.Core.List.{List, ◌++◌}
use Prim.Native.Nat.{ℕ, ◌+◌, ◌≤◌}
use native.Mathlib.Omega.{arith}
use lib.ListN.{length, take, drop}
use lib.Seq.{sets, sets-eq, length-take-le}
use borrow.Author.Rules.{rules}
use Rattle.shoe.proofs.discard_drawn.Goals as goal

-- cards stored from the first place on stand in front of the others
stored : (l cards : List ℕ) (n : ℕ) → length cards ≡ n → n ≤ length l → sets l 0 cards ≡ cards ++ drop n l
stored l cards n e h =
    let many : 0 + length cards ≡ n = omega arith in
    subst (λ (k : ℕ). sets l 0 cards ≡ cards ++ drop k l) many (sets-eq cards l 0 (omega arith))

pub returns : goal.returns
returns c =
    let sh = c.args.sh in
    let order : length sh.order ≡ 416 = search rules in
    let discards : length sh.discards ≡ 416 = search rules in
    let drawn : length (take sh.drawn sh.order) ≡ sh.drawn = length-take-le sh.drawn sh.order (omega arith) in
    rw (c.copy_from_slice.ensures.after, stored sh.discards (take sh.drawn sh.order) sh.drawn drawn (omega arith)) refl
