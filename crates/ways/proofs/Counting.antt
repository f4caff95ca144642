-- The lists from a table on, by what close says there; how many they are, and the one at a place.
use mathlib.Core.Path.{◌≡◌, refl, sym, ◌∙◌, ap, ap₂, subst}
use mathlib.Core.Bool.{Bool, true, false, cond}
use mathlib.Core.List.{List, [], ◌∷◌, ◌++◌, map}
use Prim.Native.Nat.{ℕ, zero, suc, ◌+◌, ◌-◌, ◌*◌, ◌≤◌, ◌<◌}
use native.Mathlib.Nat.{le_refl, zero-add, suc-add, add_assoc}
use native.Mathlib.Numerals.{add-one}
use native.Mathlib.Omega.{arith}
use lib.Dec.{eqb}
use lib.ListN.{length, take, get_or, length-map, length-append, get_or-append, get_or-map}
use lib.Seq.{get_or-append-add}
use borrow.Author.Tests.{ne_eqb}
use Rattle.lists.specs.Flat.{flat}
use Rattle.lists.specs.Sum.{sum_of}
use Rattle.lists.proofs.Sums.{sum-take, sum-most}
use Rattle.lists.proofs.Parts.{sum-before}
use Rattle.lists.proofs.Places.{get_d_any}
use Rattle.call.specs.declared.At.{At}
use Rattle.call.specs.declared.Call.TheVariants.{Close}
use Rattle.table.specs.declared.Table.{Table}
use Rattle.engine.specs.Step.{number, next}
use Rattle.ways.specs.Decisions.{decision_kinds, decision}
use Rattle.ways.specs.Ways.{end_or, beginning, ways_from}

module _ (at : At) (t : Table) where
  -- a list ends here
  pub ended : (n : ℕ) → number t Close [] ≡ 0 → ways_from n at t ≡ [] ∷ []
  unfolding ways_from
  ended zero e = simp e
  ended (suc n) e = simp e

  -- close is refused, and not because a hand waits
  pub stuck : (n : ℕ) → (number t Close [] ≡ 0 → ⊥) → (number t Close [] ≡ 7 → ⊥) → ways_from n at t ≡ []
  unfolding ways_from
  stuck zero some other = simp (ne_eqb _ 0 some, ne_eqb _ 7 other)
  stuck (suc n) some other = simp (ne_eqb _ 0 some, ne_eqb _ 7 other)

  -- a hand waits, and no decision is left
  pub spent : number t Close [] ≡ 7 → ways_from 0 at t ≡ []
  unfolding ways_from
  spent e = simp e

  -- a hand waits
  pub goes : (n : ℕ) → number t Close [] ≡ 7 → ways_from (suc n) at t ≡ flat (beginning (ways_from n at) t at) decision_kinds
  unfolding ways_from
  goes n e = simp e

  -- a decision that is accepted, and one that is refused
  pub accepted_begins : (n kind : ℕ) → number t (decision at kind) [] ≡ 0
      → beginning (ways_from n at) t at kind ≡ map (λ decisions. kind ∷ decisions) (ways_from n at (next t (decision at kind) []))
  unfolding beginning
  accepted_begins n kind e = simp e

  pub refused_begins : (n kind : ℕ) → (number t (decision at kind) [] ≡ 0 → ⊥) → beginning (ways_from n at) t at kind ≡ []
  unfolding beginning
  refused_begins n kind some = simp (ne_eqb _ 0 some)

-- how many lists begin with a decision
abbrev pub begun : ℕ → At → Table → ℕ → ℕ
begun n at t kind = length (beginning (ways_from n at) t at kind)

module _ {A : Type 0} (f : A → List (List ℕ)) where
  flat-length : (xs : List A) → length (flat f xs) ≡ sum_of (λ x. length (f x)) xs
  unfolding flat sum_of
  flat-length [] = refl
  flat-length (x ∷ xs) = length-append (f x) (flat f xs) ∙ ap (λ (n : ℕ). length (f x) + n) (flat-length xs)

  -- behind those of the first i elements stand those of the next
  flat-at : (xs : List A) (i : ℕ) (d : A) (r : ℕ) → i < length xs → r < length (f (get_or xs i d))
      → get_or (flat f xs) (sum_of (λ x. length (f x)) (take i xs) + r) [] ≡ get_or (f (get_or xs i d)) r []
  unfolding flat sum_of
  flat-at [] i d r h inside = absurd (omega arith)
  flat-at (x ∷ xs) zero d r h inside = ap (λ (k : ℕ). get_or (f x ++ flat f xs) k []) (zero-add r) ∙ get_or-append (f x) (flat f xs) [] r inside
  flat-at (x ∷ xs) (suc i) d r h inside =
      ap (λ (k : ℕ). get_or (f x ++ flat f xs) k []) (add_assoc (length (f x)) (sum_of (λ x. length (f x)) (take i xs)) r)
      ∙ get_or-append-add (f x) (flat f xs) (sum_of (λ x. length (f x)) (take i xs) + r) []
      ∙ flat-at xs i d r (omega arith) inside

module _ (at : At) (t : Table) (n : ℕ) where
  pub accepted-begun : (kind : ℕ) → number t (decision at kind) [] ≡ 0 → begun n at t kind ≡ length (ways_from n at (next t (decision at kind) []))
  accepted-begun kind e = ap length (accepted_begins at t n kind e) ∙ length-map (ways_from n at (next t (decision at kind) [])) (λ decisions. kind ∷ decisions)

  pub refused-begun : (kind : ℕ) → (number t (decision at kind) [] ≡ 0 → ⊥) → begun n at t kind ≡ 0
  refused-begun kind some = ap length (refused_begins at t n kind some)

  module _ (waits : number t Close [] ≡ 7) where
    pub goes_length : length (ways_from (suc n) at t) ≡ sum_of (begun n at t) decision_kinds
    goes_length = ap length (goes at t n waits) ∙ flat-length (beginning (ways_from n at) t at) decision_kinds

    -- the list at a place begins with the decision behind whose predecessors' lists it stands
    pub goes_at : (i r kind : ℕ) → i < 6 → kind ≡ get_or decision_kinds i 0 → number t (decision at kind) [] ≡ 0 → r < length (ways_from n at (next t (decision at kind) []))
        → get_or (ways_from (suc n) at t) (sum_of (begun n at t) (take i decision_kinds) + r) [] ≡ kind ∷ get_or (ways_from n at (next t (decision at kind) [])) r []
    goes_at i r kind h same accept inside =
        let place = sum_of (begun n at t) (take i decision_kinds) + r in
        ap (λ (l : List (List ℕ)). get_or l place []) (goes at t n waits)
        ∙ flat-at (beginning (ways_from n at) t at) decision_kinds i 0 r h (omega (arith, accepted-begun kind accept, ap (begun n at t) same))
        ∙ ap (λ (k : ℕ). get_or (beginning (ways_from n at) t at k) r []) (sym same)
        ∙ ap (λ (l : List (List ℕ)). get_or l r []) (accepted_begins at t n kind accept)
        ∙ map_at kind (ways_from n at (next t (decision at kind) [])) r inside
      where
        map_at : (kind : ℕ) (lists : List (List ℕ)) (r : ℕ) → r < length lists → get_or (map (λ decisions. kind ∷ decisions) lists) r [] ≡ kind ∷ get_or lists r []
        map_at kind lists r inside =
            get_d_any (map (λ decisions. kind ∷ decisions) lists) r [] (kind ∷ []) (omega (arith, length-map lists (λ decisions. kind ∷ decisions)))
            ∙ get_or-map (λ decisions. kind ∷ decisions) lists r []

-- how many there can be: six times as many for each decision more
most : ℕ → ℕ
most zero = 1
most (suc n) = most n * 6

most_some : (n : ℕ) → 1 ≤ most n
unfolding most
most_some zero = omega arith
most_some (suc n) = omega (arith, most_some n)

ends-most : (t : Table) (k : ℕ) (lists : List (List ℕ)) → 1 ≤ k → length lists ≤ k → length (end_or t lists) ≤ k
ends-most t k lists one few = go (eqb (number t Close []) 0) (eqb (number t Close []) 7)
  where
    go : (a b : Bool) → length (cond a ([] ∷ []) (cond b lists [])) ≤ k
    go true b = omega arith
    go false true = few
    go false false = omega arith

begun-most : (at : At) (t : Table) (n k : ℕ) → ((u : Table) → length (ways_from n at u) ≤ k) → (kind : ℕ) → begun n at t kind ≤ k
unfolding beginning
begun-most at t n k each kind = go (eqb (number t (decision at kind) []) 0)
  where
    go : (b : Bool) → length (cond b (map (λ decisions. kind ∷ decisions) (ways_from n at (next t (decision at kind) []))) []) ≤ k
    go true = omega (arith, length-map (ways_from n at (next t (decision at kind) [])) (λ decisions. kind ∷ decisions), each (next t (decision at kind) []))
    go false = omega arith

ways-most : (n : ℕ) (at : At) (t : Table) → length (ways_from n at t) ≤ most n
unfolding ways_from most
ways-most zero at t = ends-most t 1 [] (omega arith) (omega arith)
ways-most (suc n) at t =
    ends-most t (most n * 6) (flat (beginning (ways_from n at) t at) decision_kinds) (omega (arith, most_some n))
    (omega (arith, flat-length (beginning (ways_from n at) t at) decision_kinds, sum-most (begun n at t) (most n) (begun-most at t n (most n) (ways-most n at)) decision_kinds))

most_more : (n k : ℕ) → most n ≤ most (k + n)
unfolding most
most_more n zero = rw zero-add (le_refl (most n))
most_more n (suc k) = rw suc-add (omega (arith, most_more n k))

-- of at most eight decisions
pub ways_fit : (n : ℕ) (at : At) (t : Table) → n ≤ 8 → length (ways_from n at t) ≤ 1679616
unfolding most
ways_fit n at t h =
    let all : (8 - n) + n ≡ 8 = omega arith in
    omega (arith, ways-most n at t, subst (λ (k : ℕ). most n ≤ most k) all (most_more n (8 - n)))

pub begun_fit : (at : At) (t : Table) (n i : ℕ) → n < 8 → i < 6 → number t Close [] ≡ 7 → sum_of (begun n at t) (take i decision_kinds) + begun n at t (get_or decision_kinds i 0) ≤ 1679616
begun_fit at t n i h inside waits =
    omega (arith, sum-before (begun n at t) decision_kinds i 0 inside, goes_length at t n waits, ways_fit (suc n) at t h)

-- those that begin with one of the first i decisions, and the next
pub sum-next : (f : ℕ → ℕ) (i all one sum : ℕ) → i < 6 → all ≡ sum_of f (take i decision_kinds) → one ≡ f (get_or decision_kinds i 0) → sum ≡ all + one → sum ≡ sum_of f (take (i + 1) decision_kinds)
sum-next f i all one sum h before here e =
    e ∙ ap₂ (λ (x y : ℕ). x + y) before here ∙ sym (sum-take f decision_kinds i 0 h) ∙ ap (λ (n : ℕ). sum_of f (take n decision_kinds)) (sym (add-one i))

-- the place that is left behind one decision more
pub place-next : (f : ℕ → ℕ) (i place rest one left : ℕ) → i < 6 → place ≡ sum_of f (take i decision_kinds) + rest → one ≡ f (get_or decision_kinds i 0) → one ≤ rest → left ≡ rest - one
    → place ≡ sum_of f (take (i + 1) decision_kinds) + left
place-next f i place rest one left h before here few e = omega (arith, sum-next f i (sum_of f (take i decision_kinds)) one (sum_of f (take i decision_kinds) + one) h refl here refl)

-- and all six
pub sum-all : (at : At) (t : Table) (n i all : ℕ) → number t Close [] ≡ 7 → 0 < n → i ≡ 6 → all ≡ sum_of (begun (n - 1) at t) (take i decision_kinds) → all ≡ length (ways_from n at t)
sum-all at t n i all waits some done e =
    let back : suc (n - 1) ≡ n = omega arith in
    e ∙ ap (λ (k : ℕ). sum_of (begun (n - 1) at t) (take k decision_kinds)) done ∙ sym (goes_length at t (n - 1) waits) ∙ ap (λ (k : ℕ). length (ways_from k at t)) back
