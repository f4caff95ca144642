-- `all_within` asks range by range, as `all_of` does.
use Rattle.std.proofs.Common.{rules, tests}
use Rattle.std.proofs.lemmas.Iterator.{YieldsList-from_slice}
use Rattle.std.proofs.lemmas.Iterator.Search.{all_from_yields_List}
use Rattle.lists.proofs.Chains.{all_of-list_all}
use Rattle.options.specs.Ranges.{within}
use Rattle.options.proofs.all_within.Goals as goal

pub returns : goal.returns
returns c = rw all_of-list_all (all_from_yields_List within _ _ _ c.all.ensures.ran (YieldsList-from_slice c.args.rs cc) (λ x b q k. search (rules, tests)))
