-- The bank's cards after a deal: the up card, and with the box the hidden one behind it.
use mathlib.Core.Path.{◌≡◌, refl}
use mathlib.Core.Bool.{Bool, true, false, cond}
use mathlib.Core.List.{[], ◌∷◌}
use Prim.Native.Nat.{ℕ, ◌≤◌}
use native.Mathlib.Omega.{arith}
use lib.ListN.{length}
use Rattle.cards.specs.declared.hand.Hand.{Hand}
use Rattle.cards.specs.Hand.{cards_of, empty_hand, with_card}
use Rattle.options.specs.declared.Options.{Options}
use Rattle.options.specs.Device.{is_box, bank_at_deal}
use Rattle.deal_spec.specs.Deal.{dealt_bank}

module _ (o : Options) where
  pub some_at-deal : 1 ≤ bank_at_deal o
  unfolding bank_at_deal
  some_at-deal = go (is_box o)
    where
      go : (box : Bool) → 1 ≤ cond box 2 1
      go true = omega arith
      go false = omega arith

  module _ (up hidden : ℕ) where
    abbrev given : Bool → Hand
    given box = cond box (with_card (with_card empty_hand up) hidden) (with_card empty_hand up)

    pub bank_cards_lem : cards_of (dealt_bank o up hidden) ≡ up ∷ cond (is_box o) (hidden ∷ []) []
    unfolding dealt_bank with_card
    bank_cards_lem = go (is_box o)
      where
        go : (box : Bool) → cards_of (given box) ≡ up ∷ cond box (hidden ∷ []) []
        go true = refl
        go false = refl

    pub bank-count : (dealt_bank o up hidden).count ≡ bank_at_deal o
    unfolding dealt_bank with_card bank_at_deal
    bank-count = go (is_box o)
      where
        go : (box : Bool) → (given box).count ≡ cond box 2 1
        go true = refl
        go false = refl

    pub bank-length : length (dealt_bank o up hidden).cards ≡ 20
    unfolding dealt_bank with_card
    bank-length = go (is_box o)
      where
        go : (box : Bool) → length (given box).cards ≡ 20
        go true = refl
        go false = refl
