-- `ways` goes over the next card's points: before each turn the counts are those with a next card of fewer points. The depth falls at each call of itself.
use Rattle.std.proofs.Common.{◌≡◌, ◌-◌}
use Rattle.cards.specs.Hand.{cards_of}
use Rattle.bank_chances.specs.Aids.Ways.{ways_below}
use Rattle.bank_chances.proofs.ways.+ways.Given as goal

abbrev pub decreases-ways : goal.decreases-ways
decreases-ways l = l.depth

abbrev pub invariant-loop-p : goal.invariant-loop-p
invariant-loop-p l = l.counts.each ≡ ways_below (cards_of l.bank) l.fn.left l.n (l.depth - 1) l.p
