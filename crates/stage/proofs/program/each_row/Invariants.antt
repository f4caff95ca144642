-- The rows among the lines so far were taken, one after another.
use Rattle.std.proofs.Common.{map}
use Rattle.std.specs.List.{FoldsTo, filter}
use Rattle.stage.specs.Script.{TakesRow, is_row}
use Rattle.stage.proofs.program.each_row.Given as goal

abbrev pub invariant-loop-line : goal.invariant-loop-line
invariant-loop-line g l =
    record {
      can : (goal.iterator-loop-line g).can_next l.line-iterator;
      ends : (goal.iterator-loop-line g).is_finite l.line-iterator;
      taken : FoldsTo (TakesRow g.F.Fn l.take) (l.fn.out, l.fn.begun) (filter is_row (map (λ x. x.now) l.yielded)) (l.out, l.state);
    }
