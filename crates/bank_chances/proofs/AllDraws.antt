-- Each draw has one of the eight endings, so that the counts together are all draws.
use mathlib.Core.Path.{◌≡◌, sym, ◌∙◌}
use mathlib.Core.List.{[], ◌∷◌}
use Prim.Native.Nat.{ℕ, ◌*◌}
use native.Mathlib.Nat.{mul-one}
use native.Mathlib.Omega.{arith}
use Rattle.lists.specs.Below.{sum_below}
use Rattle.lists.specs.Sum.{sum_of, is_it}
use Rattle.lists.proofs.Below.{sum_below-same}
use Rattle.lists.proofs.Sums.{sum-map, sum_ones}
use Rattle.bank_chances.specs.AllDraws.{SumToAll}
use Rattle.bank_chances.specs.Chances.{draws_ending}
use Rattle.bank_chances.specs.Draws.{draws}
use Rattle.bank_chances.specs.Ending.{ends_in}
use Rattle.payment.specs.Bank.{bank_takes}
use Rattle.bank_chances.proofs.Draws.{draws_many}
use Rattle.bank_chances.proofs.Eight.{ending_below}
use Rattle.bank_chances.proofs.Groups.{sum_by_group}

-- eight numbers, added from the front and from the back
eight : (f : ℕ → ℕ) → sum_of (λ count. count) (f 0 ∷ f 1 ∷ f 2 ∷ f 3 ∷ f 4 ∷ f 5 ∷ f 6 ∷ f 7 ∷ []) ≡ sum_below f 8
unfolding sum_of sum_below
eight f = omega arith

pub sum_to_all : SumToAll
unfolding draws_ending
sum_to_all bank cards k =
    eight (draws_ending bank cards k)
    ∙ sum_below-same (draws_ending bank cards k) (λ e. sum_of (λ draw. is_it e (ends_in bank draw)) (draws k cards) * 1) 8 (λ e h.
    sum-map (is_it e) (ends_in bank) (draws k cards) ∙ sym (mul-one (sum_of (λ draw. is_it e (ends_in bank draw)) (draws k cards))))
    ∙ sym (sum_by_group (ends_in bank) (λ e. 1) 8 (λ draw. ending_below (bank_takes bank draw)) (draws k cards))
    ∙ sum_ones (draws k cards)
    ∙ draws_many k cards
