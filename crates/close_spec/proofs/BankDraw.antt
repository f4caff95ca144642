-- The bank's cards at close, as the call draws them and as the history counts them.
use mathlib.Core.Path.{◌≡◌, refl, sym, ◌∙◌}
use mathlib.Core.Bool.{Bool, true, false, cond, true≢false}
use mathlib.Core.List.{List, [], ◌∷◌, ◌++◌, append_assoc, append-nil}
use Prim.Native.Nat.{ℕ, suc, ◌+◌, ◌≤◌}
use native.Mathlib.Omega.{arith}
use lib.Dec.{leb}
use lib.ListN.{length, get_or, take, drop}
use lib.Seq.{drop-drop}
use borrow.Author.Tests.{le-leb, eqb-true}
use Rattle.lists.proofs.Sums.{sum_one}
use Rattle.lists.proofs.Tests.{any_one}
use Rattle.lists.proofs.Picks.{cond_most}
use Rattle.cards.specs.Card.{is_ace, rank_of}
use Rattle.cards.specs.Points.{points_of, points_table}
use Rattle.cards.proofs.card.PointsLaws.{points-most}
use Rattle.cards.specs.Total.{total, low_sum}
use Rattle.cards.proofs.total.Bounds.{total_le}
use Rattle.payment.specs.Bank.{must_draw, bank_takes}
use Rattle.options.specs.declared.Options.{Options}
use Rattle.options.specs.Device.{is_box}
use Rattle.options.specs.Aids.Facts.{InRange}
use Rattle.history.specs.Cards.{Cards, make_cards, bank_more, bank_taken, bank_final, close_burns}
use Rattle.close_spec.specs.BankDraw.{bank_burn}

-- the bank takes as many as the history counts
bank_takes_lem : (cards rest : List ℕ) → bank_takes cards rest ≡ cards ++ take (bank_more cards rest) rest
unfolding bank_takes bank_more must_draw
bank_takes_lem cards [] = sym (append-nil cards)
bank_takes_lem cards (card ∷ rest) = go (leb (total cards) 16) (bank_takes_lem (cards ++ (card ∷ [])) rest)
  where
    more : ℕ
    more = bank_more (cards ++ (card ∷ [])) rest

    go : (b : Bool) → bank_takes (cards ++ (card ∷ [])) rest ≡ (cards ++ (card ∷ [])) ++ take more rest
        → cond b (bank_takes (cards ++ (card ∷ [])) rest) cards ≡ cards ++ take (cond b (suc more) 0) (card ∷ rest)
    go true rec = rec ∙ append_assoc cards (card ∷ []) (take more rest)
    go false rec = sym (append-nil cards)

-- and no more than there are
bank_more-most : (cards rest : List ℕ) → bank_more cards rest ≤ length rest
unfolding bank_more
bank_more-most cards [] = omega arith
bank_more-most cards (card ∷ rest) = cond_most (leb (total cards) 16) (omega (arith, bank_more-most (cards ++ (card ∷ [])) rest)) (omega arith)

-- one card is never above 16, so the second always comes
low_one : (card : ℕ) → low_sum (card ∷ []) ≡ points_of card
low_one card = sum_one points_of card

ace-points : (rank : ℕ) → rank ≡ 0 → get_or points_table rank 0 ≡ 1
ace-points rank e = rw e

ace-total : (card : ℕ) → is_ace card ≡ true → total (card ∷ []) ≤ 16
unfolding points_of
ace-total card ace = omega (arith, total_le (card ∷ []), low_one card, ace-points (rank_of card) (eqb-true (rank_of card) 0 ace))

other_total : (card : ℕ) → is_ace card ≡ false → total (card ∷ []) ≤ 16
unfolding total
other_total card none = simp (any_one is_ace card, none) (omega (arith, low_one card, points-most card))

total-one : (card : ℕ) → total (card ∷ []) ≤ 16
total-one card = go (is_ace card) refl
  where
    go : (b : Bool) → is_ace card ≡ b → total (card ∷ []) ≤ 16
    go true ace = ace-total card ace
    go false none = other_total card none

-- the history counts the second card of a bank that has one by itself: it always comes
counts_same : (box : Bool) (bank rest : List ℕ) → (box ≡ false → length bank ≡ 1) → must_draw (bank_takes bank rest) ≡ false
    → cond box (bank_more bank rest) (suc (bank_more (bank ++ take 1 rest) (drop 1 rest))) ≡ bank_more bank rest
unfolding bank_takes bank_more must_draw
counts_same true bank rest one stands = refl
counts_same false [] rest one stands = absurd (omega (arith, one refl))
counts_same false (up ∷ []) [] one stands = absurd (true≢false (sym (le-leb (total (up ∷ [])) 16 (total-one up)) ∙ stands))
counts_same false (up ∷ []) (card ∷ rest) one stands = sym (simp (le-leb (total (up ∷ [])) 16 (total-one up)))
counts_same false (up ∷ x ∷ xs) rest one stands = absurd (omega (arith, one refl))

-- the box takes no later burn, so none before the bank's cards
pub box_burns_none : (o : Options) → InRange o → is_box o ≡ true → bank_burn o ≡ 0
unfolding bank_burn
box_burns_none o f box = rw (f.box_later box)

-- the same from the history's cards: of a bank that has one card, and of the box's
module _ (o : Options) (order : List ℕ) (fresh : Bool) (drawn : ℕ) (bank : List ℕ) where
  abbrev pub known : Cards
  known = make_cards order fresh drawn bank

  abbrev behind : List ℕ
  behind = drop (bank_burn o) (drop drawn order)

  pub burns_same : bank_burn o ≡ close_burns o
  unfolding bank_burn close_burns
  burns_same = refl

  rest-same : drop (drawn + close_burns o) order ≡ behind
  rest-same = sym (rw burns_same (drop-drop (close_burns o) drawn order))

  module _ (one : is_box o ≡ false → length bank ≡ 1) (stands : must_draw (bank_takes bank behind) ≡ false) where
    counted : bank_taken o known ≡ bank_more bank behind
    unfolding bank_taken
    counted = rw rest-same (counts_same (is_box o) bank behind one stands)

    pub bank_enough : bank_taken o known ≤ length behind
    bank_enough = omega (arith, counted, bank_more-most bank behind)

    -- the bank's new cards
    pub bank-new : bank_takes bank behind ≡ bank ++ take (bank_taken o known) behind
    bank-new = rw counted (bank_takes_lem bank behind)

    pub bank-same : bank_takes bank behind ≡ bank_final o known
    unfolding bank_final
    bank-same = rw rest-same bank-new
