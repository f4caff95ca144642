-- Document 01, "The seventeen calls", close, and "Cards and totals": how the bank's cards stand.
use Rattle.std.specs.Prelude.{Bool, cond, List, [], ◌∷◌, ◌++◌, ℕ, leb}
use Rattle.cards.specs.Total.{total}
use Rattle.cards.specs.Natural.{is_natural}
use Rattle.payment.specs.declared.bank.Score.{Score}

-- The bank (article 6 1)) takes cards while its total is 16 or less.
unfoldable pub must_draw : List ℕ → Bool
must_draw cards = leb (total cards) 16

-- Cards while the total is 16 or less, as long as there are any. One card is never above 16, so the second comes by the same rule.
unfoldable pub bank_takes : List ℕ → List ℕ → List ℕ
bank_takes cards [] = cards
bank_takes cards (card ∷ rest) = cond (must_draw cards) (bank_takes (cards ++ (card ∷ [])) rest) cards

-- What payment asks of the bank's cards: their total, and whether its two cards are a natural.
abbrev pub score_of : List ℕ → Score
score_of cards = record { total = total cards; natural = is_natural cards }
