-- `many_left` adds the counts, and a face stands among the cards as often as its count says.
use Rattle.std.proofs.Common.{◌≡◌, length, rules}
use Rattle.std.proofs.iter.runs.Sources.{sums}
use Rattle.bank_chances.proofs.Faces.{length-cards_left}
use Rattle.bank_chances.proofs.left.many_left.Goals as goal

pub sum-requires-clause-fits : goal.sum-requires-clause-fits
sum-requires-clause-fits c =
    let full : length c.args.left ≡ 52 = search rules in
    search (rules, sums)

pub returns : goal.returns
returns c = rw length-cards_left (search (rules, sums))
