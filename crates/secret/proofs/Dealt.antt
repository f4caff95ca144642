-- From the load to the close: the calls before the deal, the deal itself, which reads only places before the hidden card's, and the calls behind it.
use mathlib.Core.Path.{◌≡◌, sym, ◌∙◌, ap}
use mathlib.Core.List.{List, ◌∷◌}
use Prim.Native.Nat.{ℕ, suc, ◌+◌, ◌<◌}
use native.Mathlib.Omega.{arith}
use borrow.Author.Tests.{eqb-false}
use Rattle.call.specs.declared.Call.TheVariants.{Deal}
use Rattle.call.specs.Refusal.{first}
use Rattle.table.specs.declared.Table.{Table}
use Rattle.history.specs.Entry.{Entry}
use Rattle.deal_spec.specs.Deal.{deal_takes, deal_conditions, deal_effect}
use Rattle.display.specs.InSight.{ShowsSame}
use Rattle.engine.specs.Step.{number, next, shown}
use Rattle.engine.specs.Run.{run}
use Rattle.books.proofs.Keeps.{keeps}
use Rattle.books.proofs.Steps.{step_options}
use Rattle.secret.specs.Secret.{exchanged, deal, up_to_close, Hides}
use Rattle.secret.proofs.Exchange.{exchanged-length, exchanged_other}
use Rattle.secret.proofs.Veil.{Veiled}
use Rattle.secret.proofs.Steps.{number-first, Follows, follows}
use Rattle.secret.proofs.Alike.{deal_number}
use Rattle.secret.proofs.Deal.{deal-drawn, deal-order, deal_last, deal_veiled}
use Rattle.secret.proofs.Plays.{Plays, plays_more, plays-both}
use Rattle.secret.proofs.Before.{Before, before-plays}
use Rattle.secret.proofs.Behind.{Behind, undrawn-most, behind-plays}

module _ (p q : ℕ) where
  deal-follows : (t u : Table) (lent : List ℕ) → Before p q t u → number t Deal lent ≡ 0 → (next t Deal lent).shoe.drawn ≡ suc p → p < q → Follows (Behind q) t u Deal lent
  deal-follows t u lent b zero hidden less = follows (Behind q) t u Deal lent same_number (λ e. (behind, shows)) (λ refused. absurd (eqb-false _ _ refused zero))
    where
      order : List ℕ
      order = exchanged p q t.shoe.order

      same_number : first (deal_conditions u) ≡ first (deal_conditions t)
      same_number = deal_number t u order b.veiled b.whole b.other_whole

      last : t.shoe.drawn + deal_takes t ≡ suc p
      last = deal_last t lent p zero hidden

      veiled : Veiled order (deal_effect t) (deal_effect u)
      veiled =
          rw b.veiled.is
          (deal_veiled t b.veiled.bank order b.veiled.discards b.box (exchanged-length p q t.shoe.order) p last
          (λ n small. exchanged_other p q t.shoe.order n (λ e. omega arith) (λ e. omega arith)))

      shows : shown u Deal (deal_effect u) ≡ shown t Deal (deal_effect t)
      shows = ap (shown u Deal) veiled.is

      behind : Behind q (deal_effect t) (deal_effect u)
      behind =
          record {
            order = order;
            veiled = veiled;
            whole = keeps t Deal lent b.whole zero;
            other_whole = keeps u Deal lent b.other_whole (number-first u Deal lent ∙ same_number ∙ sym (number-first t Deal lent) ∙ zero);
            box = rw (step_options t Deal lent) b.box;
            begun = omega (arith, deal-drawn t, last);
            ahead = λ n least other. rw (deal-order t) (exchanged_other p q t.shoe.order n (λ e. omega (arith, deal-drawn t, last, least, e)) other);
          }

  -- the hidden card lies before place q
  pub hidden_before : (t : Table) (before : List Entry) (lent : List ℕ) (behind : List Entry) → Hides p q t before lent behind → p < q
  hidden_before t before lent behind h = omega (arith, undrawn-most q (next (run t before) Deal lent) behind h.not_drawn, h.hidden)

  pub hides_plays : (t u : Table) (before : List Entry) (lent : List ℕ) (behind : List Entry) → Before p q t u → Hides p q t before lent behind → Plays ShowsSame (up_to_close before lent behind) t u
  hides_plays t u before lent behind b h =
      plays-both ShowsSame (Before p q) before (deal lent ∷ behind) t u (before-plays p q before t u b h.no_other) (λ at.
      let f = deal-follows (run t before) (run u before) lent at h.dealt h.hidden (hidden_before t before lent behind h) in
      plays_more ShowsSame (deal lent) behind (run t before) (run u before)
      (record { answer = f.answer; after = behind-plays q behind (next (run t before) Deal lent) (next (run u before) Deal lent) f.after h.not_drawn h.no_close }))
