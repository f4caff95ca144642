-- The recursion step by step, for all eight endings together: where it has ended, and with the next card of one more points.
use mathlib.Core.Path.{◌≡◌, refl, sym, ◌∙◌, ap}
use mathlib.Core.Bool.{true, false}
use mathlib.Core.List.{List, [], ◌∷◌, ◌++◌, map}
use Prim.Native.Nat.{ℕ, zero, suc, ◌+◌, ◌-◌, ◌*◌, ◌≤◌, ◌<◌}
use native.Mathlib.Nat.{zero-mul}
use native.Mathlib.Numerals.{add-one}
use native.Mathlib.Omega.{arith}
use lib.ListN.{length, get_or, replicate}
use Rattle.lists.specs.Below.{sum_below}
use Rattle.lists.specs.Sum.{sum_of}
use Rattle.cards.specs.Hand.{cards_of, with_card}
use Rattle.cards.specs.declared.hand.Hand.{Hand}
use Rattle.payment.specs.Bank.{must_draw}
use Rattle.payment.proofs.bank.Draws.{draws-card}
use Rattle.bank_chances.specs.Chances.{endings}
use Rattle.bank_chances.specs.Draws.{falling}
use Rattle.bank_chances.specs.Ending.{ending_of}
use Rattle.bank_chances.specs.Aids.Ways.{ways, ways_with, ways_of, ways_below, only_ending, plus_times, without, Room}
use Rattle.bank_chances.proofs.Bounds.{ways-room}

-- nothing is left to draw, or the bank stands
pub ended-draw : (bank left : List ℕ) (n k : ℕ) → k ≡ 0 → only_ending (ending_of bank) (falling n k) ≡ ways_of bank left n k
unfolding ways
ended-draw bank left n k none = rw none

pub ended_rule : (bank left : List ℕ) (n k : ℕ) → must_draw bank ≡ false → only_ending (ending_of bank) (falling n k) ≡ ways_of bank left n k
unfolding ways
ended_rule bank left n zero stands = refl
ended_rule bank left n (suc k) stands = sym (simp stands)

-- the next card of all ten points
pub all-points : (bank left : List ℕ) (n k : ℕ) → must_draw bank ≡ true → 1 ≤ k → ways_below bank left n (k - 1) 10 ≡ ways_of bank left n k
unfolding ways
all-points bank left n zero must h = absurd (omega arith)
all-points bank left n (suc k) must h = let same : suc k - 1 ≡ k = omega arith in rw same (sym (simp must))

-- before the first of them
pub no_points : (bank left : List ℕ) (n k : ℕ) → replicate 8 0 ≡ ways_below bank left n k 0
unfolding sum_below
no_points bank left n k = refl

-- one more, of which there are some or none
pub some_more : (bank left : List ℕ) (n k p : ℕ) → plus_times (ways_below bank left n k p) (get_or left p 0) (ways_of (bank ++ (p ∷ [])) (without left p) (n - 1) k) ≡ ways_below bank left n k (p + 1)
unfolding sum_below
some_more bank left n k p = sym (ap (ways_below bank left n k) (add-one p))

none_more : (bank left : List ℕ) (n k p e : ℕ) → get_or left p 0 ≡ 0
    → sum_below (ways_with e bank left n k) p ≡ sum_below (ways_with e bank left n k) (suc p)
unfolding sum_below
none_more bank left n k p e none =
    let next = ways e (bank ++ (p ∷ [])) (without left p) (n - 1) k in
    let nothing : get_or left p 0 * next ≡ 0 = ap (λ (c : ℕ). c * next) none ∙ zero-mul next in
    omega arith

pub map_same : (f g : ℕ → ℕ) → ((e : ℕ) → f e ≡ g e) → (es : List ℕ) → map f es ≡ map g es
map_same f g same [] = refl
map_same f g same (e ∷ es) = rw (same e, map_same f g same es)

pub points-passed : (bank left : List ℕ) (n k p : ℕ) → get_or left p 0 ≡ 0 → ways_below bank left n k p ≡ ways_below bank left n k (p + 1)
points-passed bank left n k p none =
    map_same (λ e. sum_below (ways_with e bank left n k) p) (λ e. sum_below (ways_with e bank left n k) (suc p)) (λ e. none_more bank left n k p e none) endings
    ∙ sym (ap (ways_below bank left n k) (add-one p))

-- behind a card of these points, as the bank's hand has it
pub behind-card : (bank next : Hand) (left behind : List ℕ) (n k p : ℕ) → length bank.cards ≡ 20 → must_draw (cards_of bank) ≡ true → next ≡ with_card bank p
    → behind ≡ ways_of (cards_of next) (without left p) (n - 1) k → behind ≡ ways_of (cards_of bank ++ (p ∷ [])) (without left p) (n - 1) k
behind-card bank next left behind n k p full must drawn so =
    so ∙ ap (λ (cards : List ℕ). ways_of cards (without left p) (n - 1) k) (ap cards_of drawn ∙ draws-card bank p full must)

-- the sums fit
pub room : (bank left counts behind : List ℕ) (n k p : ℕ) → counts ≡ ways_below bank left n k p → behind ≡ ways_of (bank ++ (p ∷ [])) (without left p) (n - 1) k
    → n ≤ 416 → length left ≡ 10 → sum_of (λ count. count) left ≤ 416 → k < 6 → p < 10 → Room counts (get_or left p 0) behind
room bank left counts behind n k p so later many ten few deep h =
    rw (so, later) record {
      natural = fits 0;
      seventeen = fits 1;
      eighteen = fits 2;
      nineteen = fits 3;
      twenty = fits 4;
      other21 = fits 5;
      bust = fits 6;
      unfinished = fits 7;
    }
  where
    fits : (e : ℕ) → sum_below (ways_with e bank left n k) p + ways_with e bank left n k p < 18446744073709551616
    fits e = ways-room e k bank left n p many ten few deep h
