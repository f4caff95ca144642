-- `falling` takes the first factor and calls itself for the others. No product passes 416^6.
use Rattle.std.proofs.Common.{ℕ, ◌-◌, ◌*◌, sym, ap, ◌∙◌, zero-mul, arith}
use Rattle.bank_chances.specs.Draws.{falling as falling_of}
use Rattle.bank_chances.proofs.Draws.{falling-first}
use Rattle.bank_chances.proofs.Bounds.{falling-most, most-six}
use Rattle.bank_chances.proofs.ways.+falling.Goals as goal

pub returns-then-depth-eq0 : goal.returns-then-depth-eq0
unfolding falling_of
returns-then-depth-eq0 t c = sym (ap (falling_of c.args.n) c.if-depth-eq0.true)

pub returns-then-n-eq0 : goal.returns-then-n-eq0
returns-then-n-eq0 t c =
    let n = c.args.n in
    let depth = c.args.depth in
    sym (falling-first n depth c.if-depth-eq0.false ∙ ap (λ (m : ℕ). m * falling_of (n - 1) (depth - 1)) c.if-n-eq0.true ∙ zero-mul (falling_of (n - 1) (depth - 1)))

pub overflow_mul-result : goal.overflow_mul-result
overflow_mul-result t c =
    let n = c.args.n in
    let depth = c.args.depth in
    omega (arith, ap (λ (m : ℕ). n * m) c.falling.ensures, falling-first n depth c.if-depth-eq0.false, falling-most depth n c.requires.0, most-six depth c.requires.1)

pub returns : goal.returns
returns t c =
    let n = c.args.n in
    ap (λ (m : ℕ). n * m) c.falling.ensures ∙ sym (falling-first n c.args.depth c.if-depth-eq0.false)
