-- The bank's cards: when it has all of them, and that there is room for one more where it draws.
use mathlib.Core.Path.{◌≡◌, refl}
use mathlib.Core.Bool.{true, false}
use mathlib.Core.List.{List, [], ◌∷◌, ◌++◌}
use Prim.Native.Nat.{ℕ, ◌<◌}
use native.Mathlib.Omega.{arith}
use lib.ListN.{length, length-take}
use borrow.Author.Tests.{leb-true}
use Rattle.cards.specs.declared.hand.Hand.{Hand}
use Rattle.cards.specs.Hand.{cards_of, with_card}
use Rattle.cards.proofs.hand.WithCard.{with_card-cards, with_card_full}
use Rattle.cards.specs.Total.{total}
use Rattle.cards.proofs.total.Bounds.{room_for_bank}
use Rattle.payment.specs.Bank.{must_draw, bank_takes}

-- a bank that stands has all its cards
pub stands_all : (cards rest : List ℕ) → must_draw cards ≡ false → bank_takes cards rest ≡ cards
unfolding bank_takes
stands_all cards [] stands = refl
stands_all cards (card ∷ rest) stands = simp stands

-- a bank that draws has room for a card
module _ (bank : Hand) (card : ℕ) (full : length bank.cards ≡ 20) (draws : must_draw (cards_of bank) ≡ true) where
  room : bank.count < 20
  unfolding must_draw
  room = omega (arith, room_for_bank (cards_of bank) (leb-true (total (cards_of bank)) 16 draws), length-take bank.count bank.cards)

  pub draws-card : cards_of (with_card bank card) ≡ cards_of bank ++ (card ∷ [])
  draws-card = with_card-cards bank card full room

  pub draws_full : length (with_card bank card).cards ≡ 20
  draws_full = with_card_full bank card full room
