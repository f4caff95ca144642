-- Each option is within its range: the test computes.
use Rattle.std.proofs.Common.{refl}
use Rattle.lists.specs.Tests.{all_of}
use Rattle.options.specs.Ranges.{ranges, in_range}
use Rattle.stage.proofs.house.marked.Goals as goal

pub returns : goal.returns
unfolding in_range ranges all_of
returns c = refl
