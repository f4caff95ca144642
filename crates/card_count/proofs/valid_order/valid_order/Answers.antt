-- An order of another length is not valid; of an order of that length the counters of the faces decide.
use mathlib.Core.Path.{◌≡◌, refl, ◌∙◌}
use Prim.Native.Nat.{◌*◌}
use native.Mathlib.Omega.{arith}
use borrow.Author.Tests.{ne_eqb}
use lib.ListN.{length}
use Rattle.card_count.specs.Aids.Counters.{no_counts}
use Rattle.table.specs.Shoe.{valid_order}
use Rattle.card_count.proofs.valid_order.Orders.{faces-decide}
use Rattle.card_count.proofs.valid_order.valid_order.Goals as goal

pub returns-then-order-decks : goal.returns-then-order-decks
unfolding valid_order
returns-then-order-decks c =
    rw (ne_eqb (length c.args.order.now) (52 * c.args.decks) (λ e. omega arith))

pub returns : goal.returns
unfolding no_counts
returns c =
    let right : length c.args.order.now ≡ 52 * c.args.decks = omega arith in
    c.each_face.ensures
    ∙ faces-decide c.args.decks c.args.order.now c.args.order.now _ right (omega arith)
    c.count.ensures
    (λ b. refl)
