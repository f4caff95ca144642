-- Sums over all draws: by the first card, and how many draws there are.
use mathlib.Core.Path.{◌≡◌, refl, sym, ◌∙◌, ap}
use mathlib.Core.List.{List, [], ◌∷◌, map}
use Prim.Native.Nat.{ℕ, zero, suc, ◌+◌, ◌-◌, ◌*◌}
use native.Mathlib.Omega.{arith}
use lib.ListN.{length}
use Rattle.lists.specs.Sum.{sum_of}
use Rattle.lists.proofs.Sums.{sum-flat, sum-map, sum_ones}
use Rattle.bank_chances.specs.Draws.{first_cards, draws, falling}
use Rattle.bank_chances.proofs.Groups.{sum_same, sum-each}

-- a card drawn out of some: whatever is added up over these, the card and the others make it
abbrev pub Drawn : ℕ → List ℕ → List ℕ → Type 0
Drawn card rest cards = (w : ℕ → ℕ) → sum_of w cards ≡ w card + sum_of w rest

-- a sum over the first cards that asks nothing but the card is the sum over the cards
pub first-sum : (f : ℕ → List ℕ → ℕ) (g : ℕ → ℕ) (cards : List ℕ) → ((card : ℕ) (rest : List ℕ) → Drawn card rest cards → f card rest ≡ g card)
    → sum_of (λ drawn. f drawn.0 drawn.1) (first_cards cards) ≡ sum_of g cards
unfolding first_cards sum_of
first-sum f g [] h = refl
first-sum f g (card ∷ cards) h =
    let later = first-sum (λ c rest. f c (card ∷ rest)) g cards (λ c rest drawn. h c (card ∷ rest) (λ w. omega (arith, drawn w))) in
    omega (arith, h card cards (λ w. refl), later, sum-map (λ (drawn : ℕ × List ℕ). f drawn.0 drawn.1) (λ (drawn : ℕ × List ℕ). (drawn.0, card ∷ drawn.1)) (first_cards cards))

-- one card more: a sum over the draws by their first card
pub draws-sum : (f : List ℕ → ℕ) (k : ℕ) (cards : List ℕ)
    → sum_of f (draws (suc k) cards) ≡ sum_of (λ drawn. sum_of (λ draw. f (drawn.0 ∷ draw)) (draws k drawn.1)) (first_cards cards)
unfolding draws
draws-sum f k cards =
    sum-flat f (λ drawn. map (λ draw. drawn.0 ∷ draw) (draws k drawn.1)) (first_cards cards)
    ∙ sum_same (λ drawn. sum_of f (map (λ draw. drawn.0 ∷ draw) (draws k drawn.1))) (λ drawn. sum_of (λ draw. f (drawn.0 ∷ draw)) (draws k drawn.1))
    (λ drawn. sum-map f (λ draw. drawn.0 ∷ draw) (draws k drawn.1)) (first_cards cards)

-- how many there are
pub draws_many : (k : ℕ) (cards : List ℕ) → length (draws k cards) ≡ falling (length cards) k
unfolding draws falling
draws_many zero cards = refl
draws_many (suc k) cards =
    sym (sum_ones (draws (suc k) cards))
    ∙ draws-sum (λ draw. 1) k cards
    ∙ first-sum (λ card rest. sum_of (λ draw. 1) (draws k rest)) (λ card. falling (length cards - 1) k) cards (λ card rest drawn.
    sum_ones (draws k rest) ∙ draws_many k rest ∙ ap (λ (n : ℕ). falling n k) (fewer card rest drawn))
    ∙ sum-each (falling (length cards - 1) k) cards
  where
    fewer : (card : ℕ) (rest : List ℕ) → Drawn card rest cards → length rest ≡ length cards - 1
    fewer card rest drawn = omega (arith, drawn (λ x. 1), sum_ones rest, sum_ones cards)

-- the falling product, one factor apart
pub falling-first : (n k : ℕ) → (k ≡ 0 → ⊥) → falling n k ≡ n * falling (n - 1) (k - 1)
unfolding falling
falling-first n zero h = absurd (h refl)
falling-first n (suc k) h = let same : k ≡ suc k - 1 = omega arith in ap (λ (d : ℕ). n * falling (n - 1) d) same
