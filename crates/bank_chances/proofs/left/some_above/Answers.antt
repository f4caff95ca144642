-- `some_above` asks count by count.
use Rattle.std.proofs.Common.{ltb, rules, tests}
use Rattle.std.proofs.lemmas.Iterator.{YieldsList-from_slice}
use Rattle.std.proofs.lemmas.Iterator.Search.{any_from_yields_List}
use Rattle.lists.proofs.Chains.{any_of-list_any}
use Rattle.bank_chances.proofs.left.some_above.Goals as goal

pub returns : goal.returns
returns c = rw any_of-list_any (any_from_yields_List (λ count. ltb 8 count) _ _ _ c.any.ensures.ran (YieldsList-from_slice c.args.left cc) (λ x b q k. search (rules, tests)))
