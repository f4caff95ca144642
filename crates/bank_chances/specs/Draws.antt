-- Request 2.10: all ordered draws of k different cards, one for each way to take k different places of the list.
use Rattle.std.specs.Prelude.{List, [], ◌∷◌, map, ℕ, zero, suc, ◌-◌, ◌*◌}
use Rattle.lists.specs.Flat.{flat}

-- Each card of the list drawn first, together with the others, in their order.
unfoldable pub first_cards : List ℕ → List (ℕ × List ℕ)
first_cards [] = []
first_cards (card ∷ cards) = (card, cards) ∷ map (λ drawn. (drawn.0, card ∷ drawn.1)) (first_cards cards)

-- A first card, and behind it a draw of the others.
unfoldable pub draws : ℕ → List ℕ → List (List ℕ)
draws zero cards = [] ∷ []
draws (suc k) cards = flat (λ drawn. map (λ draw. drawn.0 ∷ draw) (draws k drawn.1)) (first_cards cards)

-- n (n − 1) … (n − k + 1), 1 for k = 0.
unfoldable pub falling : ℕ → ℕ → ℕ
falling n zero = 1
falling n (suc k) = n * falling (n - 1) k
