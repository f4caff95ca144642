-- Request 2.10: the eight counts, and when they are refused.
use Rattle.std.specs.Prelude.{cond, List, [], ◌∷◌, map, ℕ, ltb, eqb, length, replicate}
use Rattle.lists.specs.Sum.{count_of}
use Rattle.lists.specs.Tests.{any_of}
use Rattle.call.specs.Refusal.{Condition, first}
use Rattle.bank_chances.specs.CardsLeft.{cards_left}
use Rattle.bank_chances.specs.Draws.{draws, falling}
use Rattle.bank_chances.specs.Ending.{ends_in}
use Rattle.bank_chances.specs.declared.BankChances.{BankChances}

-- How many draws of k cards end so, with these cards of the bank.
unfoldable pub draws_ending : List ℕ → List ℕ → ℕ → ℕ → ℕ
draws_ending bank cards k ending = count_of ending (map (ends_in bank) (draws k cards))

-- The eight endings: natural, 17, 18, 19, 20, 21 otherwise, bust, unfinished.
abbrev pub endings : List ℕ
endings = 0 ∷ 1 ∷ 2 ∷ 3 ∷ 4 ∷ 5 ∷ 6 ∷ 7 ∷ []

-- The eight counts.
abbrev pub counts_of : List ℕ → List ℕ → ℕ → List ℕ
counts_of bank cards k = map (draws_ending bank cards k) endings

-- 3 a wrong card, or a face that is left more than eight times; 27 a depth over 6, or over the number of cards left.
unfoldable pub chances_conditions : ℕ → List ℕ → ℕ → List Condition
chances_conditions up left k =
    (3, ltb 51 up) ∷ (3, any_of (λ count. ltb 8 count) left) ∷ (27, ltb 6 k) ∷ (27, ltb (length (cards_left left)) k) ∷ []

abbrev pub chances_number : ℕ → List ℕ → ℕ → ℕ
chances_number up left k = first (chances_conditions up left k)

abbrev pub make_chances : ℕ → ℕ → List ℕ → BankChances
make_chances number all counts = record { number = number; all = all; counts = counts }

-- Behind the number: how many draws there are, n (n − 1) … (n − k + 1), and the counts of them. Refused: zeros.
unfoldable pub chances_of : ℕ → List ℕ → ℕ → BankChances
chances_of up left k =
    cond (eqb (chances_number up left k) 0) (make_chances 0 (falling (length (cards_left left)) k) (counts_of (up ∷ []) (cards_left left) k))
    (make_chances (chances_number up left k) 0 (replicate 8 0))
