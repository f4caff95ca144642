-- What is known once the number is 0: the faces are few enough for the count, and then the recursion gives the counts of the definition.
use mathlib.Core.Path.{◌≡◌, refl, sym, ◌∙◌, ap}
use mathlib.Core.Bool.{false}
use mathlib.Core.List.{List, [], ◌∷◌, map}
use Prim.Native.Nat.{ℕ, suc, ◌*◌, ◌≤◌}
use native.Mathlib.Nat.{mul-one}
use native.Mathlib.Omega.{arith}
use borrow.Author.Tests.{ltb-false}
use lib.Dec.{ltb}
use lib.ListN.{length, get_or, replicate, length-append, length-replicate}
use Rattle.lists.specs.Below.{sum_below}
use Rattle.lists.specs.Sum.{sum_of}
use Rattle.lists.specs.Tests.{any_of, all_of}
use Rattle.lists.proofs.Below.{sum_below-same, sum_by_place}
use Rattle.lists.proofs.Sums.{sum_ones}
use Rattle.lists.proofs.Tests.{or_eq_false}
use Rattle.cards.specs.Hand.{cards_of, empty_hand, with_card}
use Rattle.cards.specs.declared.hand.Hand.{Hand}
use Rattle.call.proofs.Refusals.{none_hold}
use Rattle.bank_chances.specs.CardsLeft.{cards_from, cards_left}
use Rattle.bank_chances.specs.Chances.{draws_ending, endings, counts_of, chances_conditions, chances_number}
use Rattle.bank_chances.specs.Aids.Ways.{stand_in, standing, ways, ways_of, Standing, Within}
use Rattle.bank_chances.proofs.Groups.{sum_by_group}
use Rattle.bank_chances.proofs.Recursion.{ways_count}
use Rattle.bank_chances.proofs.StandIns.{stand_in_below}
use Rattle.bank_chances.proofs.Steps.{map_same}

-- at most eight of each face
few_faces : (face : ℕ) (left : List ℕ) → any_of (λ count. ltb 8 count) left ≡ false → length (cards_from face left) ≤ 8 * length left
unfolding any_of cards_from
few_faces face [] none = omega arith
few_faces face (count ∷ left) none =
    let (here, later) = or_eq_false (ltb 8 count) (any_of (λ c. ltb 8 c) left) none in
    omega (arith, length-append (replicate count face) (cards_from (suc face) left), length-replicate {A = ℕ} count face, ltb-false 8 count here, few_faces (suc face) left later)

-- the counts by stand-in are all cards
all-standing : (cards counts : List ℕ) → length counts ≡ 10 → Standing cards counts → sum_of (λ count. count) counts ≡ length cards
all-standing cards counts ten so =
    sum_by_place (λ count. count) counts 0
    ∙ ap (sum_below (λ p. get_or counts p 0)) ten
    ∙ sum_below-same (λ p. get_or counts p 0) (λ p. standing cards p * 1) 10 (λ p h. so.each p h ∙ sym (mul-one (standing cards p)))
    ∙ sym (sum_by_group stand_in (λ p. 1) 10 stand_in_below cards)
    ∙ sum_ones cards

pub record Accepted (left : List ℕ) (k : ℕ) : Type 0 where
  pub few : length (cards_left left) ≤ 416
  pub deep : k ≤ 6
  pub enough : k ≤ length (cards_left left)

pub accepted : (up : ℕ) (left : List ℕ) (k : ℕ) → length left ≡ 52 → chances_number up left k ≡ 0 → Accepted left k
unfolding chances_conditions all_of
accepted up left k full none =
    let (card, (counts, (depth, (many, end)))) = none_hold (chances_conditions up left k) refl none in
    record {
      few = omega (arith, few_faces 0 left counts);
      deep = ltb-false 6 k depth;
      enough = ltb-false (length (cards_left left)) k many;
    }

pub accepted-within : (left counts : List ℕ) (n k : ℕ) → Accepted left k → n ≡ length (cards_left left) → length counts ≡ 10 → Standing (cards_left left) counts → Within counts n k
accepted-within left counts n k ok many ten so =
    record {
      few = omega (arith, all-standing (cards_left left) counts ten so, ok.few);
      most = omega (arith, ok.few);
      deep = ok.deep;
      enough = omega (arith, ok.enough);
    }

-- the up card alone
one-card : (up : ℕ) → cards_of (with_card empty_hand up) ≡ up ∷ []
unfolding with_card
one-card up = refl

pub counted : (up : ℕ) (hand : Hand) (cards counts : List ℕ) (n k : ℕ) → hand ≡ with_card empty_hand up → n ≡ length cards → length counts ≡ 10 → Standing cards counts
    → ways_of (cards_of hand) counts n k ≡ counts_of (up ∷ []) cards k
counted up hand cards counts n k dealt many ten so =
    map_same (λ e. ways e (cards_of hand) counts n k) (draws_ending (up ∷ []) cards k)
    (λ e. sym (ways_count e k (up ∷ []) (cards_of hand) cards counts n (sym (ap (map stand_in) (ap cards_of dealt ∙ one-card up))) ten so.each many)) endings
