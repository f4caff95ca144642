-- The first line feed behind the place, or the end of what is behind it.
use Rattle.std.proofs.Common.{◌-◌, ◌∙◌, sym, length, drop, arith}
use lib.ListN.{length-drop, drop_of_length-le}
use lib.Seq.{take_all}
use Rattle.lists.specs.Tests.{first_place}
use Rattle.script.specs.Lines.{ends_line}
use Rattle.script.proofs.Lines.{place-some, place-none}
use Rattle.script.proofs.end_of.Goals as goal

pub returns-then-text-at : goal.returns-then-text-at
unfolding first_place
returns-then-text-at c = rw (drop_of_length-le c.args.text.now c.if-text-at.true) (omega arith)

pub returns-in-Some : goal.returns-in-Some
returns-in-Some c =
    let text = c.args.text.now in
    let behind = drop c.args.at text in
    let whole = take_all (length text - c.args.at) behind (omega (arith, length-drop c.args.at text)) in
    omega (arith, place-some ends_line behind c.in-Some.letters (rw whole at (sym c.first_feed.ensures ∙ c.in-Some.is)))

pub returns-in-None : goal.returns-in-None
returns-in-None c =
    let text = c.args.text.now in
    let behind = drop c.args.at text in
    let whole = take_all (length text - c.args.at) behind (omega (arith, length-drop c.args.at text)) in
    omega (arith, place-none ends_line behind (rw whole at (sym c.first_feed.ensures ∙ c.in-None.is)), length-drop c.args.at text)
