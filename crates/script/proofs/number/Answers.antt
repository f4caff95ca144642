-- A fold over the letters is the definition's recursion.
use Rattle.std.proofs.Common.{rules, ◌≡◌, ◌∙◌}
use Rattle.std.proofs.iter.runs.Made.{chains}
use Rattle.std.specs.List.{fold}
use Rattle.script.specs.Number.{with_digit}
use Rattle.script.proofs.Numbers.{fold-read_on}
use Rattle.script.proofs.number.Goals as goal

pub returns : goal.returns
returns c =
    let folded : c.fold.result ≡ fold with_digit 0 c.args.text.now = search (rules, chains) in
    folded ∙ fold-read_on 0 c.args.text.now
