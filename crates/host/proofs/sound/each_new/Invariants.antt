-- Place by place: before each turn each of the first k holds a card that sits nowhere before, and one that does not decides.
use mathlib.Core.Path.{◌≡◌}
use mathlib.Core.Bool.{true}
use Rattle.lists.specs.Below.{all_below}
use Rattle.host.proofs.sound.Laws.{passes}
use Rattle.host.proofs.sound.each_new.Given as goal

abbrev pub invariant-loop-k : goal.invariant-loop-k
invariant-loop-k l = all_below (passes l.fn.cards) l.k ≡ true
