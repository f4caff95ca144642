-- One call on two tables: where its number is the same on both, its answer and what is asked of the two next tables follow from what it shows and does where it is accepted.
use mathlib.Core.Path.{◌≡◌, refl, ap}
use mathlib.Core.Bool.{Bool, true, false, cond}
use mathlib.Core.List.{List}
use Prim.Native.Nat.{ℕ}
use lib.Dec.{eqb}
use borrow.Author.Tests.{eqb-true}
use Rattle.call.specs.declared.Call.{Call}
use Rattle.call.specs.Refusal.{first}
use Rattle.call.specs.Answer.{Answer, Shown, empty_shown}
use Rattle.table.specs.declared.Table.{Table}
use Rattle.answer.specs.Reply.{reply_by}
use Rattle.engine.specs.Step.{conditions, effect, shown, step, number, next}

module _ (t : Table) (c : Call) (lent : List ℕ) where
  pub number-first : number t c lent ≡ first (conditions t c lent)
  unfolding number step reply_by
  number-first = refl

  -- an accepted call gives its effect, and what holds of the effect and of the table as it was holds of the next
  pub accepted-next : number t c lent ≡ 0 → next t c lent ≡ effect t c lent
  unfolding number next step reply_by
  accepted-next accepted = rw accepted

  pub refused-next : eqb (number t c lent) 0 ≡ false → next t c lent ≡ t
  unfolding number next step reply_by
  refused-next refused = rw refused

  pub next_either : (P : Table → Type 0) → (number t c lent ≡ 0 → P (effect t c lent)) → P t → P (next t c lent)
  unfolding number next step reply_by
  next_either P accepted refused = go (eqb (first (conditions t c lent)) 0) refl
    where
      go : (b : Bool) → eqb (first (conditions t c lent)) 0 ≡ b → P (cond b (effect t c lent) t)
      go true e = accepted (eqb-true _ _ e)
      go false e = refused

-- The call answers the same on both, and the next tables are as `R` says.
pub record Follows (R : Table → Table → Type 0) (t u : Table) (c : Call) (lent : List ℕ) : Type 0 where
  pub answer : (step u c lent).answer ≡ (step t c lent).answer
  pub after : R (next t c lent) (next u c lent)

module _ (R : Table → Table → Type 0) (t u : Table) (c : Call) (lent : List ℕ) where
  pub follows : first (conditions u c lent) ≡ first (conditions t c lent) → (number t c lent ≡ 0 → (R (effect t c lent) (effect u c lent)) × (shown u c (effect u c lent) ≡ shown t c (effect t c lent)))
      → (eqb (number t c lent) 0 ≡ false → R t u) → Follows R t u c lent
  unfolding number next step reply_by
  follows same accepted refused = record { answer = rw same (ap (answering (first (conditions t c lent))) (shows test refl)); after = rw same (gives test refl) }
    where
      test : Bool
      test = eqb (first (conditions t c lent)) 0

      answering : ℕ → Shown → Answer
      answering n seen = record { number = n; shown = seen }

      shows : (b : Bool) → test ≡ b → cond b (shown u c (effect u c lent)) empty_shown ≡ cond b (shown t c (effect t c lent)) empty_shown
      shows true e = (accepted (eqb-true _ _ e)).1
      shows false e = refl

      gives : (b : Bool) → test ≡ b → R (cond b (effect t c lent) t) (cond b (effect u c lent) u)
      gives true e = (accepted (eqb-true _ _ e)).0
      gives false e = refused e
