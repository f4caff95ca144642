-- `falling` takes the first factor and calls itself for the others; the depth falls.
use Rattle.bank_chances.proofs.ways.+falling.Given as goal

abbrev pub decreases-falling : goal.decreases-falling
decreases-falling l = l.depth
