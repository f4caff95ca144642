-- Each kind has its place in the array; there is none above the fourth.
use mathlib.Core.Path.{◌≡◌, sym, ap}
use Prim.Native.Nat.{ℕ, ◌-◌}
use native.Mathlib.Omega.{arith}
use lib.ListN.{length, get_or, get_or-eq_default}
use borrow.Author.Rules.{rules}
use Rattle.cashier.proofs.side.side_of.Goals as goal

pub returns-then-kind-gt4 : goal.returns-then-kind-gt4
returns-then-kind-gt4 c =
    let at = c.args in
    let full : length at.sides ≡ 4 = search rules in
    sym (get_or-eq_default at.sides 0 {n = at.kind - 1} (omega (arith, c.if-kind-gt4.true)))

pub returns-in-2 : goal.returns-in-2
returns-in-2 c =
    let at = c.args in
    let place : 1 ≡ at.kind - 1 = omega (arith) in
    ap (λ (i : ℕ). get_or at.sides i 0) place

pub returns-in-3 : goal.returns-in-3
returns-in-3 c =
    let at = c.args in
    let place : 2 ≡ at.kind - 1 = omega (arith) in
    ap (λ (i : ℕ). get_or at.sides i 0) place

pub returns-in-4 : goal.returns-in-4
returns-in-4 c =
    let at = c.args in
    let place : 3 ≡ at.kind - 1 = omega (arith) in
    ap (λ (i : ℕ). get_or at.sides i 0) place

pub returns-in_default : goal.returns-in_default
returns-in_default c =
    let at = c.args in
    let place : 0 ≡ at.kind - 1 = omega arith in
    ap (λ (i : ℕ). get_or at.sides i 0) place
