-- Place by place: before each turn the first k cards are counted, the others still to come.
use mathlib.Core.Path.{◌≡◌}
use lib.ListN.{length}
use Rattle.host.proofs.counting.Laws.{Walked}
use Rattle.host.proofs.counting.counted.Given as goal

abbrev pub invariant-loop-k : goal.invariant-loop-k
invariant-loop-k l = (length l.next ≡ 27) × Walked l.fn.h.table l.after l.fn.h.cards l.k l.next
