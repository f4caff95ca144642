-- Two cards of an order exchanged: it is as long, has each face as often and the other places as they were, so it is a valid order where the first is one.
use mathlib.Core.Path.{◌≡◌, sym, ◌∙◌, ap, ap₂}
use mathlib.Core.Bool.{true, ◌&&◌, and-eq-true_iff}
use mathlib.Core.List.{List, ◌++◌}
use Prim.Native.Nat.{ℕ, ◌-◌, ◌*◌, ◌<◌}
use native.Mathlib.Omega.{arith}
use lib.Dec.{ltb, eqb}
use lib.ListN.{length, get_or, set, replicate, length-set, get_or-append}
use lib.Seq.{get_or-set_other, set-append_left}
use borrow.Author.Tests.{eqb-true, eq-eqb}
use Rattle.lists.specs.Sum.{is_it, count_of}
use Rattle.lists.specs.Tests.{all_of}
use Rattle.lists.specs.Below.{all_below}
use Rattle.lists.proofs.Sums.{sum-set}
use Rattle.lists.proofs.Below.{all_below_lem, below_all}
use Rattle.lists.proofs.Counts.{sum_below-each, counts_all}
use Rattle.table.specs.Shoe.{make_shoe, valid_order, new_shoe}
use Rattle.secret.specs.Secret.{exchanged}

pub valid_long : (decks : ℕ) (order : List ℕ) → valid_order decks order ≡ true → length order ≡ 52 * decks
unfolding valid_order
valid_long decks order valid =
    let (before, counts) = (and-eq-true_iff (eqb (length order) (52 * decks) && all_of (λ card. ltb card 52) order) (all_below (λ face. eqb (count_of face order) decks) 52)).0 valid in
    eqb-true _ _ ((and-eq-true_iff (eqb (length order) (52 * decks)) (all_of (λ card. ltb card 52) order)).0 before).0

module _ (p q : ℕ) (order : List ℕ) where
  pub exchanged-length : length (exchanged p q order) ≡ length order
  exchanged-length = length-set (set order p (get_or order q 0)) q (get_or order p 0) ∙ length-set order p (get_or order q 0)

  pub exchanged_other : (n : ℕ) → (n ≡ p → ⊥) → (n ≡ q → ⊥) → get_or (exchanged p q order) n 0 ≡ get_or order n 0
  exchanged_other n not-p not-q =
      get_or-set_other (set order p (get_or order q 0)) q n (get_or order p 0) 0 not-q ∙ get_or-set_other order p n (get_or order q 0) 0 not-p

  module _ (p-in : p < length order) (q-in : q < length order) where
    -- cards behind the order
    exchanged-append : (more : List ℕ) → exchanged p q (order ++ more) ≡ exchanged p q order ++ more
    exchanged-append more =
        let at_p : get_or (order ++ more) p 0 ≡ get_or order p 0 = get_or-append order more 0 p p-in in
        let at-q : get_or (order ++ more) q 0 ≡ get_or order q 0 = get_or-append order more 0 q q-in in
        ap₂ (λ (a b : ℕ). set (set (order ++ more) p b) q a) at_p at-q
        ∙ ap (λ (l : List ℕ). set l q (get_or order p 0)) (set-append_left order more p (get_or order q 0) p-in)
        ∙ set-append_left (set order p (get_or order q 0)) more q (get_or order p 0) (rw length-set q-in)

    -- the shoe that a load of it makes
    pub exchanged_shoe : (begun : ℕ) → new_shoe begun (exchanged p q order) ≡ make_shoe (exchanged p q (new_shoe begun order).order) 0 (replicate 416 0) 0 begun
    exchanged_shoe begun =
        ap (λ (l : List ℕ). make_shoe l 0 (replicate 416 0) 0 begun)
        (ap (λ (n : ℕ). exchanged p q order ++ replicate (416 - n) 0) exchanged-length ∙ sym (exchanged-append (replicate (416 - length order) 0)))

    module _ (apart : q ≡ p → ⊥) where
      exchanged-count : (face : ℕ) → count_of face (exchanged p q order) ≡ count_of face order
      exchanged-count face =
          let stays : get_or (set order p (get_or order q 0)) q 0 ≡ get_or order q 0 = get_or-set_other order p q (get_or order q 0) 0 apart in
          let first = sum-set (is_it face) order p (get_or order q 0) 0 p-in in
          let second = sum-set (is_it face) (set order p (get_or order q 0)) q (get_or order p 0) 0 (rw length-set q-in) in
          let seen : is_it face (get_or (set order p (get_or order q 0)) q 0) ≡ is_it face (get_or order q 0) = ap (is_it face) stays in
          omega (arith, first, second, seen)

      pub exchanged_valid : (decks : ℕ) → valid_order decks order ≡ true → valid_order decks (exchanged p q order) ≡ true
      unfolding valid_order
      exchanged_valid decks valid =
          let counts = ((and-eq-true_iff (eqb (length order) (52 * decks) && all_of (λ card. ltb card 52) order) (all_below (λ face. eqb (count_of face order) decks) 52)).0 valid).1 in
          let many : length (exchanged p q order) ≡ 52 * decks = exchanged-length ∙ valid_long decks order valid in
          let each : (face : ℕ) → face < 52 → count_of face (exchanged p q order) ≡ decks =
          λ face h. exchanged-count face ∙ eqb-true _ _ (all_below_lem (λ k. eqb (count_of k order) decks) 52 face counts h) in
          let all : all_of (λ card. ltb card 52) (exchanged p q order) ≡ true =
          counts_all (exchanged p q order) 52 (sum_below-each (λ k. count_of k (exchanged p q order)) 52 decks each ∙ sym many) in
          (and-eq-true_iff _ _).1
          ((and-eq-true_iff _ _).1 (eq-eqb _ _ many, all), below_all (λ face. eqb (count_of face (exchanged p q order)) decks) 52 (λ face h. eq-eqb _ _ (each face h)))
