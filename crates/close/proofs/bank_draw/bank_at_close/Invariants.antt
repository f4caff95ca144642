-- `bank_at_close` goes card by card: before each turn what the bank still takes of the cards left makes the same cards as at the start.
-- A bank that stands takes none, and no more does one that has no card left.
use mathlib.Core.Path.{◌≡◌}
use Prim.Native.Nat.{◌+◌, ◌-◌}
use lib.ListN.{length, take, drop}
use Rattle.cards.specs.Hand.{cards_of}
use Rattle.payment.specs.Bank.{bank_takes}
use Rattle.close.proofs.bank_draw.bank_at_close.Given as goal

abbrev pub invariant-loop-n : goal.invariant-loop-n
invariant-loop-n l =
    (length l.bank.cards ≡ 20)
    × (bank_takes (cards_of l.bank) (drop l.n (drop l.shoe.drawn (take (l.shoe.drawn + l.left) l.shoe.order))) ≡ bank_takes (cards_of l.initial.bank) (drop l.burnt (drop l.shoe.drawn (take (l.shoe.drawn + l.left) l.shoe.order))))

abbrev pub decreases-loop-n : goal.decreases-loop-n
decreases-loop-n l = l.left - l.n
