-- The recursion of the code: over the next card's points, with the depth falling. Ten counts say how many cards of each points are left.
use Rattle.std.specs.Prelude.{◌≡◌, cond, List, [], ◌∷◌, ◌++◌, map, ℕ, zero, suc, ◌+◌, ◌-◌, ◌*◌, ◌≤◌, ◌<◌, min, get_or, set}
use Rattle.lists.specs.Below.{sum_below}
use Rattle.lists.specs.Sum.{sum_of, is_it}
use Rattle.cards.specs.Card.{rank_of}
use Rattle.payment.specs.Bank.{must_draw}
use Rattle.bank_chances.specs.Chances.{endings}
use Rattle.bank_chances.specs.Draws.{falling}
use Rattle.bank_chances.specs.Ending.{ending_of}

-- The card that stands for every card of its points: ace to ten by rank, and the ten for jack, queen and king.
abbrev pub stand_in : ℕ → ℕ
stand_in card = min (rank_of card) 9

-- How many of the cards a stand-in stands for.
abbrev pub standing : List ℕ → ℕ → ℕ
standing cards p = sum_of (λ card. is_it p (stand_in card)) cards

-- One card of these points less.
abbrev pub without : List ℕ → ℕ → List ℕ
without left p = set left p (get_or left p 0 - 1)

-- How many draws of k of the n cards that are left end so: where the bank's rule or the draw has ended, all of them or none; else for each points as many as with it as next card,
-- times the cards of these points.
unfoldable pub ways : ℕ → List ℕ → List ℕ → ℕ → ℕ → ℕ
ways ending bank left n zero = is_it ending (ending_of bank) * falling n 0
ways ending bank left n (suc k) =
    cond (must_draw bank) (sum_below (λ p. get_or left p 0 * ways ending (bank ++ (p ∷ [])) (without left p) (n - 1) k) 10)
    (is_it ending (ending_of bank) * falling n (suc k))

-- Those with a next card of these points.
abbrev pub ways_with : ℕ → List ℕ → List ℕ → ℕ → ℕ → ℕ → ℕ
ways_with ending bank left n k p = get_or left p 0 * ways ending (bank ++ (p ∷ [])) (without left p) (n - 1) k

-- For each ending.
abbrev pub ways_of : List ℕ → List ℕ → ℕ → ℕ → List ℕ
ways_of bank left n k = map (λ ending. ways ending bank left n k) endings

-- The same with a next card of each points below p.
abbrev pub ways_below : List ℕ → List ℕ → ℕ → ℕ → ℕ → List ℕ
ways_below bank left n k p = map (λ ending. sum_below (ways_with ending bank left n k) p) endings

-- One ending alone, so many times.
abbrev pub only_ending : ℕ → ℕ → List ℕ
only_ending ending many = map (λ e. is_it e ending * many) endings

-- Counts to which others are added so many times.
abbrev pub plus_times : List ℕ → ℕ → List ℕ → List ℕ
plus_times counts many behind = map (λ e. get_or counts e 0 + many * get_or behind e 0) endings

-- What bounds the recursion: at most 416 cards, six draws of them.
pub record Within (left : List ℕ) (n k : ℕ) : Type 0 where
  pub few : sum_of (λ count. count) left ≤ 416
  pub most : n ≤ 416
  pub deep : k ≤ 6
  pub enough : k ≤ n

-- Of each ending the sum fits.
abbrev pub Fits : List ℕ → ℕ → List ℕ → ℕ → Type 0
Fits counts many behind e = get_or counts e 0 + many * get_or behind e 0 < 18446744073709551616

pub record Room (counts : List ℕ) (many : ℕ) (behind : List ℕ) : Type 0 where
  pub natural : Fits counts many behind 0
  pub seventeen : Fits counts many behind 1
  pub eighteen : Fits counts many behind 2
  pub nineteen : Fits counts many behind 3
  pub twenty : Fits counts many behind 4
  pub other21 : Fits counts many behind 5
  pub bust : Fits counts many behind 6
  pub unfinished : Fits counts many behind 7

-- The cards that are left, counted by stand-in.
pub record Standing (cards counts : List ℕ) : Type 0 where
  pub each : (p : ℕ) → p < 10 → get_or counts p 0 ≡ standing cards p
