-- `play` goes call by call: before each turn what is left to play leads to the table of all calls, and the table is whole.
use mathlib.Core.Path.{◌≡◌}
use Rattle.books.specs.Laws.{Whole}
use Rattle.replaying.specs.Aids.Turns.{Left}
use Rattle.replaying.proofs.play.Given as goal

abbrev pub invariant-loop-handed : goal.invariant-loop-handed
invariant-loop-handed l =
    record {
      can : (goal.iterator-loop-handed).can_next l.handed-iterator;
      ends : (goal.iterator-loop-handed).is_finite l.handed-iterator;
      file : l.handed-iterator.file.now ≡ l.file;
      whole : Whole l.table;
      left : Left l.file l.handed-iterator.at l.table;
    }
