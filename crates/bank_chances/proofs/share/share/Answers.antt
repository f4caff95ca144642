-- Two steps of a hundred give the parts of ten thousand: what the first leaves goes into the second.
use mathlib.Core.Path.{◌≡◌, sym, ◌∙◌, ap}
use Prim.Native.Nat.{ℕ, ◌*◌, ◌/◌, ◌<◌}
use native.Mathlib.Omega.{arith}
use borrow.Author.Tests.{lt-ltb, le-ltb, eq-eqb, ne_eqb}
use Rattle.bank_chances.specs.Share.{share_of}
use Rattle.bank_chances.proofs.Hundredths.{hundred_times, rest_below, whole-most, last_most}
use Rattle.bank_chances.proofs.share.share.Goals as goal

pub returns-then-all-eq0 : goal.returns-then-all-eq0
unfolding share_of
returns-then-all-eq0 c = simp (eq-eqb _ _ c.if-all-eq0.true)

pub returns-then-all-gt10000000000000000 : goal.returns-then-all-gt10000000000000000
unfolding share_of
returns-then-all-gt10000000000000000 c = simp (ne_eqb _ _ c.if-all-eq0.false, lt-ltb _ _ c.if-all-gt10000000000000000.true)

pub returns-then-all-count : goal.returns-then-all-count
unfolding share_of
returns-then-all-count c = simp (ne_eqb _ _ c.if-all-eq0.false, le-ltb _ _ c.if-all-gt10000000000000000.false, lt-ltb _ _ c.if-all-count.true)

pub overflow_mul-result : goal.overflow_mul-result
overflow_mul-result c =
    let count = c.args.count in
    let all = c.args.all in
    let some : 0 < all = omega (arith, c.if-all-eq0.false) in
    omega (arith, whole-most (count * 100) all some (omega arith))

pub overflow_mul-result-2 : goal.overflow_mul-result-2
overflow_mul-result-2 c =
    let count = c.args.count in
    let all = c.args.all in
    let some : 0 < all = omega (arith, c.if-all-eq0.false) in
    omega (arith, rest_below (count * 100) all some)

pub overflow_add-result : goal.overflow_add-result
overflow_add-result c =
    let count = c.args.count in
    let all = c.args.all in
    let some : 0 < all = omega (arith, c.if-all-eq0.false) in
    omega (arith, whole-most (count * 100) all some (omega arith), rest_below (count * 100) all some, last_most (count * 100) all some)

pub returns : goal.returns
unfolding share_of
returns c =
    let count = c.args.count in
    let all = c.args.all in
    let some : 0 < all = omega (arith, c.if-all-eq0.false) in
    let twice : count * 100 * 100 ≡ count * 10000 = omega arith in
    hundred_times (count * 100) all some
    ∙ ap (λ (n : ℕ). n / all) twice
    ∙ sym (simp (ne_eqb all 0 c.if-all-eq0.false, le-ltb 10000000000000000 all c.if-all-gt10000000000000000.false, le-ltb all count c.if-all-count.false))
