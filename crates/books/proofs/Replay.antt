-- The accepted calls of a run, played again alone, are accepted again: a refused call leaves the table as it was.
use mathlib.Core.Path.{◌≡◌, refl, sym, ◌∙◌, ap}
use mathlib.Core.Bool.{Bool, true, false, cond}
use mathlib.Core.List.{List, [], ◌∷◌, reverse, reverse_aux, reverse_aux-reverse_aux-nil}
use lib.Dec.{eqb}
use Rattle.table.specs.declared.Table.{Table}
use Rattle.history.specs.Entry.{Entry}
use Rattle.answer.specs.Reply.{reply_by}
use Rattle.engine.specs.Step.{number, next, step}
use Rattle.engine.specs.Run.{run, accepted}
use Rattle.books.specs.Laws.{Replayed}

abbrev is_accepted : Table → Entry → Bool
is_accepted t e = eqb (number t e.call e.order) 0

-- the accepted calls, oldest first
kept : Table → List Entry → List Entry
kept t [] = []
kept t (e ∷ es) = cond (is_accepted t e) (e ∷ kept (next t e.call e.order) es) (kept (next t e.call e.order) es)

-- a refused call leaves the table as it was
refused-next : (t : Table) (e : Entry) → is_accepted t e ≡ false → next t e.call e.order ≡ t
unfolding next number step reply_by
refused-next t e refused = simp refused

-- they are the accepted ones, turned round before those already known
kept-accepted : (t : Table) (es known : List Entry) → accepted t es known ≡ reverse_aux (kept t es) known
unfolding accepted kept
kept-accepted t [] known = refl
kept-accepted t (e ∷ es) known = go (is_accepted t e) (kept-accepted (next t e.call e.order) es)
  where
    after : Table
    after = next t e.call e.order

    go : (b : Bool) → ((k : List Entry) → accepted after es k ≡ reverse_aux (kept after es) k)
        → accepted after es (cond b (e ∷ known) known) ≡ reverse_aux (cond b (e ∷ kept after es) (kept after es)) known
    go true rec = rec (e ∷ known)
    go false rec = rec known

kept_run : (t : Table) (es : List Entry) → run t (kept t es) ≡ run t es
unfolding run kept
kept_run t [] = refl
kept_run t (e ∷ es) = go (is_accepted t e) refl (kept_run (next t e.call e.order) es)
  where
    after : Table
    after = next t e.call e.order

    go : (b : Bool) → is_accepted t e ≡ b → run after (kept after es) ≡ run after es → run t (cond b (e ∷ kept after es) (kept after es)) ≡ run after es
    go true accept rec = rec
    go false refuse rec = ap (λ (x : Table). run x (kept after es)) (sym (refused-next t e refuse)) ∙ rec

kept_again : (t : Table) (es known : List Entry) → accepted t (kept t es) known ≡ accepted t es known
unfolding accepted kept
kept_again t [] known = refl
kept_again t (e ∷ es) known = go (is_accepted t e) refl (kept_again (next t e.call e.order) es)
  where
    after : Table
    after = next t e.call e.order

    go : (b : Bool) → is_accepted t e ≡ b → ((k : List Entry) → accepted after (kept after es) k ≡ accepted after es k)
        → accepted t (cond b (e ∷ kept after es) (kept after es)) known ≡ accepted after es (cond b (e ∷ known) known)
    go true accept rec = ap (λ (b : Bool). accepted after (kept after es) (cond b (e ∷ known) known)) accept ∙ rec (e ∷ known)
    go false refuse rec = ap (λ (x : Table). accepted x (kept after es) known) (sym (refused-next t e refuse)) ∙ rec known

-- turned round twice they are themselves
kept-reverse : (t : Table) (es : List Entry) → reverse (accepted t es []) ≡ kept t es
kept-reverse t es = ap reverse (kept-accepted t es []) ∙ reverse_aux-reverse_aux-nil (kept t es) []

pub replayed : (t : Table) (calls : List Entry) → Replayed t calls
replayed t calls =
    record {
      same_table = ap (run t) (kept-reverse t calls) ∙ kept_run t calls;
      all_accepted = ap (λ (es : List Entry). accepted t es []) (kept-reverse t calls) ∙ kept_again t calls [];
    }
