-- The drawn cards behind the first make up the order beside those that are counted.
use mathlib.Core.Path.{◌∙◌}
use Prim.Native.Nat.{◌-◌, ◌*◌}
use lib.ListN.{take, drop}
use Rattle.card_count.specs.Aids.Left.{left_and_first}
use Rattle.card_count.proofs.conserved.Beside.{count-rest, drawn-decide}
use Rattle.card_count.proofs.conserved.order_valid.Goals as goal

pub returns : goal.returns
returns c =
    let a = c.args in
    let decks = a.decks in
    let cards = a.sh.now.order in
    let within = c.requires.within in
    c.each_face.ensures
    ∙ drawn-decide decks a.sh.now.drawn (take (52 * decks) cards) (left_and_first decks cards a.sh.now.drawn a.sh.now.discarded) a.left.now c.requires.whole within.order c.requires.counters (take (a.sh.now.drawn - a.sh.now.discarded) (drop a.sh.now.discarded cards)) _
    (λ b. count-rest b a.sh.now.discarded a.sh.now.drawn (52 * decks) cards within.discarded within.drawn) c.count.ensures
