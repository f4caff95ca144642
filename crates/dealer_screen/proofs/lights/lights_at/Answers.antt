-- Each field is the answer to its call.
use mathlib.Core.Path.{◌∙◌, sym, ap, ap₂}
use Prim.Native.Nat.{ℕ}
use Rattle.table.specs.declared.Table.{Table}
use Rattle.call.specs.declared.Call.TheVariants.{Insure, Stake}
use Rattle.dealer_screen.specs.Lights.{accepts as accepts_by, smallest_insurance, lights_at}
use Rattle.dealer_screen.proofs.lights.lights_at.Goals as goal

pub returns : goal.returns
unfolding lights_at
returns c =
    let t = c.args.t.now in
    let at = c.at-at.result in
    let half = c.smallest_insurance.ensures ∙ ap₂ smallest_insurance c.table-2.ensures.same (sym c.at-at.ensures) in
    let insured = c.accepts-4.ensures ∙ ap (λ (n : ℕ). accepts_by t (Insure at n)) half in
    let staked = c.accepts-3.ensures ∙ ap (λ (x : Table). accepts_by t (Stake at x.options.smallest)) c.table.ensures.same in
    (λ i. record {
      buy = c.accepts.ensures i;
      cash = c.accepts-2.ensures i;
      stake = staked i;
      insure = insured i;
      stand = c.accepts-5.ensures i;
      draw = c.accepts-6.ensures i;
      double = c.accepts-7.ensures i;
      split = c.accepts-8.ensures i;
      surrender = c.accepts-9.ensures i;
      even = c.accepts-10.ensures i;
      five = c.accepts-11.ensures i;
      pair = c.accepts-12.ensures i;
      sevens = c.accepts-13.ensures i;
      more = c.accepts-14.ensures i;
      less = c.accepts-15.ensures i;
    }) ∙ ap (lights_at t) c.at-at.ensures
