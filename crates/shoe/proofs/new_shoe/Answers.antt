-- The order stands in front, and zeros behind it.
use mathlib.Core.Path.{refl}
use Prim.Native.Nat.{ℕ}
use lib.ListN.{length}
use Rattle.lists.proofs.Stores.{drop-replicate}
use Rattle.shoe.specs.Aids.Empty.{no_cards}
use Rattle.shoe.proofs.new_shoe.Goals as goal

pub returns : goal.returns
unfolding no_cards
returns c = rw (c.copy_from_slice.ensures.after, c.no_cards-cards.ensures, c.no_cards.ensures, drop-replicate {A = ℕ} (length c.args.order.now) 416 0) refl
