-- Each part is its function's; the places in use are as many as the seat's hands.
use mathlib.Core.Path.{◌≡◌, sym, ◌∙◌}
use lib.ListN.{length}
use Rattle.rules.proofs.seat_hand.Places.{many_hands}
use Rattle.table.specs.Seat.{hands}
use borrow.Author.Rules.{rules}
use Rattle.display.proofs.seat.seat_values.Goals as goal

pub returns : goal.returns
returns c =
    let s = c.args.s in
    let full : length s.hands.places ≡ 4 = search rules in
    let many : c.used.result ≡ length (hands s) = c.used.ensures ∙ sym (many_hands s.hands full) in
    rw (c.laid.ensures, c.prizes.ensures, many)
