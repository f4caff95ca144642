-- The ways stand in order: those that begin with one decision stand before those that begin with a later one, and among themselves as their rests do.
use mathlib.Core.Path.{◌≡◌, refl, sym, ◌∙◌, ap, ap₂}
use mathlib.Core.Bool.{Bool, true, false, cond, ◌&&◌, and-eq-true_iff, true≢false}
use mathlib.Core.List.{List, [], ◌∷◌, ◌++◌, map}
use Prim.Native.Nat.{ℕ, zero, suc}
use native.Mathlib.Omega.{arith}
use lib.Dec.{ltb, eqb}
use borrow.Author.Tests.{eqb-true, eq-eqb, le-ltb}
use Rattle.lists.specs.Flat.{flat}
use Rattle.lists.specs.Tests.{all_of}
use Rattle.call.specs.declared.At.{At}
use Rattle.call.specs.declared.Call.TheVariants.{Close}
use Rattle.table.specs.declared.Table.{Table}
use Rattle.engine.specs.Step.{number, next}
use Rattle.ways.specs.Decisions.{decision_kinds, decision}
use Rattle.ways.specs.Lawful.{player, most_decisions}
use Rattle.ways.specs.Ways.{end_or, beginning, ways_from}
use Rattle.ways.specs.Laws.{comes_before, in_order, InOrder}

-- what a list begins with
head_is : (ℕ → Bool) → List ℕ → Bool
head_is f [] = false
head_is f (x ∷ xs) = f x

all_append : (f : List ℕ → Bool) (xs ys : List (List ℕ)) → all_of f xs ≡ true → all_of f ys ≡ true → all_of f (xs ++ ys) ≡ true
unfolding all_of
all_append f [] ys a b = b
all_append f (x ∷ xs) ys a b = let (here, later) = (and-eq-true_iff (f x) (all_of f xs)).0 a in simp (here, all_append f xs ys later b)

-- a list that begins with k comes before all that begin with something later
before-all : (k : ℕ) (one : List ℕ) (others : List (List ℕ)) → head_is (λ x. eqb x k) one ≡ true → all_of (head_is (ltb k)) others ≡ true → all_of (comes_before one) others ≡ true
unfolding all_of head_is comes_before
before-all k one [] starts later = refl
before-all k [] (other ∷ others) starts later = absurd (true≢false (sym starts))
before-all k (x ∷ xs) ([] ∷ others) starts later = absurd (true≢false (sym later))
before-all k (x ∷ xs) ((y ∷ ys) ∷ others) starts later =
    let (here, behind) = (and-eq-true_iff (ltb k y) (all_of (head_is (ltb k)) others)).0 later in
    let same : x ≡ k = eqb-true x k starts in
    simp (ap (λ (n : ℕ). ltb n y) same ∙ here, before-all k (x ∷ xs) others starts behind)

-- lists in order, one group behind the other
order-append : (k : ℕ) (xs ys : List (List ℕ)) → in_order xs ≡ true → in_order ys ≡ true → all_of (head_is (λ x. eqb x k)) xs ≡ true → all_of (head_is (ltb k)) ys ≡ true → in_order (xs ++ ys) ≡ true
unfolding in_order all_of
order-append k [] ys a b starts later = b
order-append k (x ∷ xs) ys a b starts later =
    let (here, rest) = (and-eq-true_iff (all_of (comes_before x) xs) (in_order xs)).0 a in
    let (head, heads) = (and-eq-true_iff (head_is (λ y. eqb y k) x) (all_of (head_is (λ y. eqb y k)) xs)).0 starts in
    simp (all_append (comes_before x) xs ys here (before-all k x ys head later), order-append k xs ys rest b heads later)

-- numbers that rise
rising : List ℕ → Bool
rising [] = true
rising (k ∷ ks) = all_of (ltb k) ks && rising ks

later_heads : (j k : ℕ) → ltb j k ≡ true → (lists : List (List ℕ)) → all_of (head_is (λ x. eqb x k)) lists ≡ true → all_of (head_is (ltb j)) lists ≡ true
unfolding all_of head_is
later_heads j k h [] e = refl
later_heads j k h ([] ∷ ls) e = absurd (true≢false (sym e))
later_heads j k h ((x ∷ xs) ∷ ls) e =
    let (here, rest) = (and-eq-true_iff (eqb x k) (all_of (head_is (λ x. eqb x k)) ls)).0 e in
    simp (ap (λ (n : ℕ). ltb j n) (eqb-true x k here) ∙ h, later_heads j k h ls rest)

module _ (f : ℕ → List (List ℕ)) (starts : (k : ℕ) → all_of (head_is (λ x. eqb x k)) (f k) ≡ true) where
  heads-flat : (j : ℕ) (ks : List ℕ) → all_of (ltb j) ks ≡ true → all_of (head_is (ltb j)) (flat f ks) ≡ true
  unfolding all_of flat
  heads-flat j [] h = refl
  heads-flat j (k ∷ ks) h =
      let (here, rest) = (and-eq-true_iff (ltb j k) (all_of (ltb j) ks)).0 h in
      all_append (head_is (ltb j)) (f k) (flat f ks) (later_heads j k here (f k) (starts k)) (heads-flat j ks rest)

  order-flat : ((k : ℕ) → in_order (f k) ≡ true) → (ks : List ℕ) → rising ks ≡ true → in_order (flat f ks) ≡ true
  unfolding flat rising in_order
  order-flat each [] h = refl
  order-flat each (k ∷ ks) h =
      let (above, rest) = (and-eq-true_iff (all_of (ltb k) ks) (rising ks)).0 h in
      order-append k (f k) (flat f ks) (each k) (order-flat each ks rest) (starts k) (heads-flat k ks above)

-- the lists that begin with one decision
map-before : (k : ℕ) (one : List ℕ) (others : List (List ℕ)) → all_of (comes_before (k ∷ one)) (map (λ decisions. k ∷ decisions) others) ≡ all_of (comes_before one) others
unfolding all_of comes_before
map-before k one [] = refl
map-before k one (other ∷ others) =
    let here : comes_before (k ∷ one) (k ∷ other) ≡ comes_before one other = simp (le-ltb k k (omega arith), eq-eqb k k refl) in
    ap₂ (λ (a b : Bool). a && b) here (map-before k one others)

map-order : (k : ℕ) (lists : List (List ℕ)) → in_order (map (λ decisions. k ∷ decisions) lists) ≡ in_order lists
unfolding in_order
map-order k [] = refl
map-order k (l ∷ ls) = ap₂ (λ (a b : Bool). a && b) (map-before k l ls) (map-order k ls)

map_heads : (k : ℕ) (lists : List (List ℕ)) → all_of (head_is (λ x. eqb x k)) (map (λ decisions. k ∷ decisions) lists) ≡ true
unfolding all_of head_is
map_heads k [] = refl
map_heads k (l ∷ ls) = simp (eq-eqb k k refl, map_heads k ls)

module _ (n : ℕ) (at : At) (t : Table) (k : ℕ) where
  beginning-heads : all_of (head_is (λ x. eqb x k)) (beginning (ways_from n at) t at k) ≡ true
  unfolding beginning all_of
  beginning-heads = go (eqb (number t (decision at k) []) 0)
    where
      go : (b : Bool) → all_of (head_is (λ x. eqb x k)) (cond b (map (λ decisions. k ∷ decisions) (ways_from n at (next t (decision at k) []))) []) ≡ true
      go true = map_heads k (ways_from n at (next t (decision at k) []))
      go false = refl

  beginning-order : in_order (ways_from n at (next t (decision at k) [])) ≡ true → in_order (beginning (ways_from n at) t at k) ≡ true
  unfolding beginning in_order
  beginning-order rest = go (eqb (number t (decision at k) []) 0)
    where
      go : (b : Bool) → in_order (cond b (map (λ decisions. k ∷ decisions) (ways_from n at (next t (decision at k) []))) []) ≡ true
      go true = map-order k (ways_from n at (next t (decision at k) [])) ∙ rest
      go false = refl

end-order : (t : Table) (lists : List (List ℕ)) → in_order lists ≡ true → in_order (end_or t lists) ≡ true
unfolding in_order all_of
end-order t lists e = go (eqb (number t Close []) 0) (eqb (number t Close []) 7)
  where
    go : (a b : Bool) → in_order (cond a ([] ∷ []) (cond b lists [])) ≡ true
    go true b = refl
    go false true = e
    go false false = refl

ways-order : (n : ℕ) (at : At) (t : Table) → in_order (ways_from n at t) ≡ true
unfolding ways_from in_order rising all_of
ways-order zero at t = end-order t [] refl
ways-order (suc n) at t =
    end-order t (flat (beginning (ways_from n at) t at) decision_kinds)
    (order-flat (beginning (ways_from n at) t at) (beginning-heads n at t) (λ k. beginning-order n at t k (ways-order n at (next t (decision at k) []))) decision_kinds refl)

pub in_order_lem : (t : Table) → InOrder t
in_order_lem t = ways-order most_decisions (player t) t
