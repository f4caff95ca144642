-- Laws of counters: over an appended list, what a loop leaves to count, and what each counter comes to.
use mathlib.Core.Path.{◌≡◌, refl, sym, ap, subst, ◌∙◌}
use mathlib.Core.List.{List, [], ◌∷◌, ◌++◌}
use Prim.Native.Nat.{ℕ, ◌+◌, ◌%◌, ◌^◌, ◌≤◌, ◌<◌}
use native.Mathlib.Decide.{ℕ_discrete}
use native.Mathlib.Nat.{mod-eq_of_lt}
use native.Mathlib.Numerals.{add-one}
use native.Mathlib.Omega.{arith}
use borrow.Author.Tests.{eq-eqb, ne_eqb}
use lib.ListN.{length, get_or, take, drop, length-replicate, get_or-replicate, take-append-drop}
use lib.Dec.{eqb}
use lib.Seq.{drop-cons, drop-drop, get_or-set_same, get_or-set_other, lt-length-set}
use Rattle.lists.specs.Sum.{sum_of, count_of, is_it}
use Rattle.lists.proofs.Sums.{sum-most}
use Rattle.lists.proofs.Picks.{cond_most}
use Rattle.card_count.specs.Aids.Counters.{no_counts, counted, counted_all}

pub counted-append : (of xs ys : List ℕ) → counted_all of (xs ++ ys) ≡ counted_all (counted_all of xs) ys
unfolding counted_all
counted-append of [] ys = refl
counted-append of (x ∷ xs) ys = counted-append (counted of x) xs ys

-- below the end of its 16 bits a counter comes to one more for its own number
counted-at : (of : List ℕ) (x b : ℕ) → b < length of → get_or of b 0 + is_it b x < 2 ^ 16 → get_or (counted of x) b 0 ≡ get_or of b 0 + is_it b x
counted-at of x b h few = go (ℕ_discrete b x)
  where
    go : Dec (b ≡ x) → get_or (counted of x) b 0 ≡ get_or of b 0 + is_it b x
    go (yes e) = let one : is_it b x ≡ 1 = rw (← e, eq-eqb b b refl) refl in rw (← e, get_or-set_same, eq-eqb b b refl) (mod-eq_of_lt (omega (arith, one, few)))
    go (no n) = rw (get_or-set_other of x b ((get_or of x 0 + 1) % 2 ^ 16) 0 n, ne_eqb x b (λ e. n (sym e))) (omega arith)

-- and to what it was and how often its number stands in a list
all-counted-at : (of xs : List ℕ) (b : ℕ) → b < length of → get_or of b 0 + count_of b xs < 2 ^ 16 → get_or (counted_all of xs) b 0 ≡ get_or of b 0 + count_of b xs
unfolding counted_all sum_of
all-counted-at of [] b h few = omega arith
all-counted-at of (x ∷ xs) b h few =
    let one = counted-at of x b h (omega (arith, few)) in
    omega (arith, all-counted-at (counted of x) xs b (lt-length-set of x ((get_or of x 0 + 1) % 2 ^ 16) h) (omega (arith, one, few)), one)

-- a number stands in a list at most once for each card
pub count_most : (b : ℕ) (xs : List ℕ) → count_of b xs ≤ length xs
count_most b xs = let few = sum-most (is_it b) 1 (λ x. cond_most (eqb x b) (omega arith) (omega arith)) xs in omega (arith, few)

-- what a loop keeps: the cards that are left bring the counters to what all come to
pub record Left (all cards of : List ℕ) : Type 0 where
  pub come_to : counted_all of cards ≡ all

left_behind : {all of next : List ℕ} (first rest : List ℕ) → Left all (first ++ rest) of → next ≡ counted_all of first → Left all rest next
left_behind {of = of} first rest left counts = rw counts (record { come_to = sym (counted-append of first rest) ∙ left.come_to })

-- one card more, and a chunk of them
pub left_next : {all of next : List ℕ} (xs : List ℕ) (i : ℕ) → i < length xs → Left all (drop i xs) of → next ≡ counted of (get_or xs i 0) → Left all (drop (i + 1) xs) next
unfolding counted_all
left_next {all = all} {of = of} xs i h left counts =
    left_behind (get_or xs i 0 ∷ []) (drop (i + 1) xs) (subst (λ (l : List ℕ). Left all l of) (rw add-one (drop-cons xs i 0 h)) left) counts

pub left_chunk : {all of next : List ℕ} (xs : List ℕ) (i n : ℕ) → Left all (drop i xs) of → next ≡ counted_all of (take n (drop i xs)) → Left all (drop (i + n) xs) next
left_chunk {all = all} {of = of} xs i n left counts =
    left_behind (take n (drop i xs)) (drop (i + n) xs)
    (subst (λ (l : List ℕ). Left all l of) (sym (ap (λ (l : List ℕ). take n (drop i xs) ++ l) (sym (drop-drop n i xs)) ∙ take-append-drop n (drop i xs))) left) counts

-- counters that begin with zero
pub counted_zeros : (xs : List ℕ) (b : ℕ) → b < 256 → count_of b xs < 2 ^ 16 → get_or (counted_all no_counts xs) b 0 ≡ count_of b xs
unfolding no_counts
counted_zeros xs b h few =
    let none : get_or no_counts b 0 ≡ 0 = get_or-replicate 256 b 0 0 h in
    omega (arith, none, all-counted-at no_counts xs b (rw (length-replicate {A = ℕ}) h) (omega (arith, none, few)))
