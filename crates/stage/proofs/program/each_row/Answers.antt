-- A line long enough was read as a row, and the closure took it; at the end the lines are all that the text has.
use Rattle.std.proofs.Common.{◌≡◌, refl, sym, List, [], ◌∷◌, ◌++◌, map, true, rules}
use mathlib.Core.Path.{subst}
use borrow.Author.Tests.{le-leb}
use Rattle.std.specs.List.{FoldsTo, filter}
use Rattle.std.proofs.lemmas.List.{map_push}
use Rattle.std.proofs.lemmas.List.Elements.{filter-append}
use Rattle.stage.specs.Script.{TakesRow, is_row}
use Rattle.stage.proofs.program.each_row.Goals as goal

-- one item more
folds_push : {P A : Type 0} (R : P → A → P → Type 0) (p q r : P) (xs : List A) (x : A) → FoldsTo R p xs q → R q x r → FoldsTo R p (xs ++ x ∷ []) r
folds_push R p q r [] x e h = (r, subst (λ t. R t x r) (sym e) h, refl)
folds_push R p q r (y ∷ ys) x (j, h, more) k = (j, h, folds_push R j q r ys x more k)

pub loop-line-init : goal.loop-line-init
loop-line-init g c = record { can = search rules; ends = search rules; taken = refl }

pub loop-line-preserved-in-Continue-1 : goal.loop-line-preserved-in-Continue-1
loop-line-preserved-in-Continue-1 g c =
    let lines = map (λ x. x.now) c.loop-line.yielded in
    let line = c.in-Some.line.now in
    let long : is_row line ≡ true = le-leb 21 _ (c.in-Some-read.ensures.found.0 refl) in
    let so_far = c.loop-line.invariant in
    record {
      can = search rules;
      ends = search rules;
      taken = rw (map_push (λ x. x.now) c.loop-line.yielded c.in-Some.line, filter-append is_row lines (line ∷ []), long)
          (folds_push (TakesRow g.F.Fn c.args.take) _ _ _ (filter is_row lines) line so_far.taken (record {
            out = _;
            state = _;
            row = c.in-Some-read.row;
            shows = (refl, refl);
            reads = c.in-Some-read.ensures.parts;
            left = _;
            result = c.take.result;
            met = c.take.ensures;
            succeeds = search rules;
            leaves = (refl, refl);
          }));
    }

pub returns : goal.returns
returns g c = (c.loop-line.yielded, c.loop-line.state, search rules, c.loop-line.invariant.taken)
