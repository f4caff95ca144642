-- A call that is no deal keeps which burn the next deal takes: it draws cards only where some are drawn.
use mathlib.Core.Path.{◌≡◌, sym, ◌∙◌, ap}
use mathlib.Core.Bool.{Bool, cond}
use Prim.Native.Nat.{ℕ, ◌+◌, ◌≤◌, ◌<◌}
use native.Mathlib.Decide.{dec_le}
use native.Mathlib.Omega.{arith}
use lib.Dec.{eqb}
use borrow.Author.Tests.{ne_eqb}
use Rattle.options.specs.declared.Options.{Options}
use Rattle.options.specs.Device.{is_machine}
use Rattle.table.specs.declared.Shoe.{Shoe}
use Rattle.table.specs.Shoe.{is_fresh, burns_first}

pub still_fresh : (o : Options) (sh next : Shoe) (k : ℕ) → next.begun ≡ sh.begun → next.drawn ≡ sh.drawn + k → (0 < k → 0 < sh.drawn)
    → burns_first o next ≡ burns_first o sh
unfolding burns_first
still_fresh o sh next k same more before =
    ap (λ (n : ℕ). cond (is_machine o) (eqb n 0) (is_fresh next)) same ∙ ap (λ (b : Bool). cond (is_machine o) (eqb sh.begun 0) b) (go (dec_le k 0))
  where
    go : Dec (k ≤ 0) → is_fresh next ≡ is_fresh sh
    go (yes none) =
        let equal : next.drawn ≡ sh.drawn = omega arith in
        ap (λ (n : ℕ). eqb n 0) equal
    go (no some) =
        let drawn : 0 < sh.drawn = before (omega arith) in
        ne_eqb next.drawn 0 (λ z. omega (arith, drawn)) ∙ sym (ne_eqb sh.drawn 0 (λ z. omega (arith, drawn)))
