-- The cards that are left bring the counters to what all cards come to: those behind the fours so far, then those of the rest.
use Prim.Native.Nat.{◌*◌}
use lib.ListN.{drop}
use Rattle.card_count.specs.Aids.Counters.{counted_all}
use Rattle.card_count.proofs.counters.Counts.{Left}
use Rattle.card_count.proofs.counters.count.Given as goal

abbrev pub invariant-loop-four : goal.invariant-loop-four
invariant-loop-four l = Left (counted_all l.initial.of l.cards) (drop (4 * l.four-index) l.cards) l.of

abbrev pub invariant-loop-card : goal.invariant-loop-card
invariant-loop-card l = Left (counted_all l.fn.of l.cards) (drop l.card-index l.rest) l.of
