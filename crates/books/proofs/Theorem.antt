-- The theorem of demand 3, by induction on the list of calls: a table that is good stays good, and a good table meets the claim.
use mathlib.Core.Path.{◌≡◌, refl, ◌∙◌, ap, subst}
use mathlib.Core.Bool.{Bool, true, false, cond}
use mathlib.Core.List.{List, [], ◌∷◌}
use Prim.Native.Nat.{ℕ}
use lib.Dec.{eqb}
use borrow.Author.Tests.{eqb-true}
use Rattle.options.specs.declared.Options.{Options}
use Rattle.table.specs.declared.Table.{Table}
use Rattle.history.specs.Entry.{Entry}
use Rattle.agreement.specs.Aids.Agrees.{Good}
use Rattle.cashier_spec.specs.Opening.{open_number, opened}
use Rattle.cashier_spec.proofs.Opening.{open_good, accepted_table}
use Rattle.answer.specs.Reply.{reply_by}
use Rattle.engine.specs.Step.{number, effect, next, step}
use Rattle.engine.specs.Run.{run, accepted}
use Rattle.books.specs.Books.{Claim, Books}
use Rattle.books.proofs.Steps.{step_good, step_options}
use Rattle.books.proofs.Claims.{claim}

-- one call, accepted or refused
abbrev known : Table → Entry → List Entry → List Entry
known t e es = cond (eqb (number t e.call e.order) 0) (e ∷ es) es

pub next_good : (opening : List ℕ) (es : List Entry) (t : Table) (e : Entry) → Good opening es t → Good opening (known t e es) (next t e.call e.order)
unfolding next number step reply_by
next_good opening es t e g = go (eqb (number t e.call e.order) 0) refl
  where
    go : (b : Bool) → eqb (number t e.call e.order) 0 ≡ b → Good opening (cond b (e ∷ es) es) (cond b (effect t e.call e.order) t)
    go true accept = step_good opening es t e.call e.order g (eqb-true (number t e.call e.order) 0 accept)
    go false refuse = g

pub next_options : (t : Table) (e : Entry) → (next t e.call e.order).options ≡ t.options
unfolding next number step reply_by
next_options t e = go (eqb (number t e.call e.order) 0)
  where
    go : (b : Bool) → (cond b (effect t e.call e.order) t).options ≡ t.options
    go true = step_options t e.call e.order
    go false = refl

run_good : (opening : List ℕ) (es : List Entry) (t : Table) (calls : List Entry) → Good opening es t → Good opening (accepted t calls es) (run t calls)
unfolding run accepted
run_good opening es t [] g = g
run_good opening es t (e ∷ calls) g = run_good opening (known t e es) (next t e.call e.order) calls (next_good opening es t e g)

pub run_options : (t : Table) (calls : List Entry) → (run t calls).options ≡ t.options
unfolding run
run_options t [] = refl
run_options t (e ∷ calls) = run_options (next t e.call e.order) calls ∙ next_options t e

-- Demand 3.
pub books : (o : Options) (opening : List ℕ) → open_number o opening ≡ 0 → (calls : List Entry) → Books o opening calls
books o opening e calls =
    let t = opened o opening in
    let es = accepted t calls [] in
    subst (λ (x : Options). Claim x opening es (run t calls)) (run_options t calls ∙ ap (λ (x : Table). x.options) (accepted_table o opening e))
    (claim opening es (run t calls) (run_good opening [] t calls (open_good o opening e)))
