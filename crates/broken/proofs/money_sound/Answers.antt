-- The sums are the table's: capped purses change no test of the limit, and a difference is compared as the sum is.
use mathlib.Core.Path.{◌≡◌, sym, ap, ◌∙◌}
use mathlib.Core.Bool.{Bool, true, not}
use Prim.Native.Nat.{◌+◌, ◌≤◌}
use native.Mathlib.Nat.{add-zero}
use native.Mathlib.Omega.{arith}
use lib.Dec.{ltb, leb}
use borrow.Author.Tests.{le-leb}
use Rattle.lists.proofs.Tests.{leb_not, leb_past}
use Rattle.table.specs.declared.Table.{Table}
use Rattle.table.specs.Table.{is_dealt}
use Rattle.table.specs.Money.{most_money, all_money}
use Rattle.table.specs.Broken.{sound_money}
use Rattle.money.specs.declared.sums.Sums.{Sums}
use Rattle.money.specs.Sums.{table_sums}
use Rattle.money.proofs.most_money.Laws.{past_limit}
use Rattle.broken.proofs.money_sound.Goals as goal

module _ (t : Table) (m : Sums) (same : m ≡ table_sums t) where
  -- the test of the limit
  within : (past : Bool) → past ≡ ltb most_money (t.tray + m.laid + m.purses + 0) → leb (all_money t) most_money ≡ not past
  within past e =
      leb_not (all_money t) most_money
      ∙ ap not (sym (e ∙ past_limit t m 0 same ∙ ap (ltb most_money) (add-zero (all_money t))))

  -- within the limit, in a dealt round, the cover decides
  covers : leb (all_money t) most_money ≡ true → is_dealt t ≡ true → leb m.cover (t.tray + m.prizes) ≡ sound_money t
  unfolding sound_money
  covers fits dealt = ap (λ (m : Sums). leb m.cover (t.tray + m.prizes)) same ∙ sym (simp (fits, dealt))

pub returns-else-not-past_most_money : goal.returns-else-not-past_most_money
unfolding sound_money
returns-else-not-past_most_money c =
    simp (within c.args.t.now c.args.m c.requires _ c.past_most_money.ensures ∙ ap not c.if-not-past_most_money.false, c.if-not-past_most_money.false)

pub returns-then-not-is_dealt : goal.returns-then-not-is_dealt
unfolding sound_money
returns-then-not-is_dealt c =
    simp (
      within c.args.t.now c.args.m c.requires _ c.past_most_money.ensures ∙ ap not c.if-not-past_most_money.true,
      sym c.is_dealt.ensures ∙ c.if-not-is_dealt.true,
      c.if-not-is_dealt.true,
    )

pub returns-then-m-t : goal.returns-then-m-t
returns-then-m-t c =
    let t = c.args.t.now in
    let m = c.args.m in
    let fits = within t m c.requires _ c.past_most_money.ensures ∙ ap not c.if-not-past_most_money.true in
    let enough : m.cover ≤ t.tray + m.prizes = omega (arith, c.if-m-t.true) in
    le-leb _ _ c.if-m-t.true ∙ sym (le-leb _ _ enough) ∙ covers t m c.requires fits (sym c.is_dealt.ensures ∙ c.if-not-is_dealt.false)

pub returns-else-m-t : goal.returns-else-m-t
returns-else-m-t c =
    let t = c.args.t.now in
    let m = c.args.m in
    let fits = within t m c.requires _ c.past_most_money.ensures ∙ ap not c.if-not-past_most_money.true in
    leb_past m.cover t.tray m.prizes c.if-m-t.false
    ∙ covers t m c.requires fits (sym c.is_dealt.ensures ∙ c.if-not-is_dealt.false)
