-- A list of calls on two tables: it answers the same on both where each of its calls does.
use mathlib.Core.Path.{◌≡◌, refl, sym, ◌∙◌, ap, ap₂}
use mathlib.Core.List.{List, [], ◌∷◌, ◌++◌}
use lib.ListN.{length, take}
use Rattle.call.specs.Answer.{Answer}
use Rattle.table.specs.declared.Table.{Table}
use Rattle.history.specs.Entry.{Entry}
use Rattle.engine.specs.Step.{step, next}
use Rattle.engine.specs.Run.{run, answers}
use Rattle.secret.proofs.Steps.{Follows}

pub run-append : (t : Table) (xs ys : List Entry) → run t (xs ++ ys) ≡ run (run t xs) ys
unfolding run
run-append t [] ys = refl
run-append t (e ∷ xs) ys = run-append (next t e.call e.order) xs ys

pub answers-append : (t : Table) (xs ys : List Entry) → answers t (xs ++ ys) ≡ answers t xs ++ answers (run t xs) ys
unfolding run answers
answers-append t [] ys = refl
answers-append t (e ∷ xs) ys = ap (λ (later : List Answer). (step t e.call e.order).answer ∷ later) (answers-append (next t e.call e.order) xs ys)

pub answers-taken : (t : Table) (xs ys : List Entry) → take (length xs) (answers t (xs ++ ys)) ≡ answers t xs
unfolding answers
answers-taken t [] ys = refl
answers-taken t (e ∷ xs) ys = ap (λ (later : List Answer). (step t e.call e.order).answer ∷ later) (answers-taken (next t e.call e.order) xs ys)

-- The answers are the same, and the two tables at the end are as `Q` says.
pub record Plays (Q : Table → Table → Type 0) (es : List Entry) (t u : Table) : Type 0 where
  pub answers_same : answers u es ≡ answers t es
  pub ends : Q (run t es) (run u es)

module _ (Q : Table → Table → Type 0) where
  pub plays-none : (t u : Table) → Q t u → Plays Q [] t u
  unfolding run answers
  plays-none t u q = record { answers_same = refl; ends = q }

  pub plays_more : (e : Entry) (es : List Entry) (t u : Table) → Follows (Plays Q es) t u e.call e.order → Plays Q (e ∷ es) t u
  unfolding run answers
  plays_more e es t u f = record { answers_same = ap₂ (λ (a : Answer) (later : List Answer). a ∷ later) f.answer f.after.answers_same; ends = f.after.ends }

  pub plays-both : (P : Table → Table → Type 0) (xs ys : List Entry) (t u : Table) → Plays P xs t u → (P (run t xs) (run u xs) → Plays Q ys (run t xs) (run u xs)) → Plays Q (xs ++ ys) t u
  plays-both P xs ys t u front back =
      let later = back front.ends in
      record {
        answers_same = answers-append u xs ys ∙ ap₂ ◌++◌ front.answers_same later.answers_same ∙ sym (answers-append t xs ys);
        ends = rw (run-append t xs ys, run-append u xs ys) later.ends;
      }
