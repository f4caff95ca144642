-- The calls are those of the definition: the lists are the same.
use Rattle.std.proofs.Common.{refl}
use Rattle.engine.specs.Session.{at, calls}
use Rattle.stage.proofs.marked.marked_calls.Goals as goal

pub returns : goal.returns
unfolding at calls
returns c = refl
