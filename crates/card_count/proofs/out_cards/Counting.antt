-- Laws of counted cards: what is counted next.
use mathlib.Core.Path.{◌≡◌, refl, sym, ap, ◌∙◌}
use mathlib.Core.List.{List, ◌++◌}
use Prim.Native.Nat.{ℕ, ◌+◌, ◌*◌, ◌≤◌, ◌<◌}
use native.Mathlib.Nat.{mul-add, mul-one}
use native.Mathlib.Omega.{arith}
use lib.ListN.{length, get_or, take, length-append}
use Rattle.lists.specs.Flat.{flat}
use Rattle.lists.proofs.Flats.{flat-next}
use Rattle.card_count.specs.Aids.Counters.{counted_all}
use Rattle.card_count.proofs.counters.Counts.{counted-append}
use Rattle.card_count.specs.Aids.Counted.{Counted}

-- cards behind cards
pub counted_join : {a b c xs ys : List ℕ} {n m k l : ℕ} → Counted a b xs n m → Counted b c ys k l → Counted a c (xs ++ ys) (n + k) (m + l)
counted_join {a} {b} {c} {xs} {ys} e f =
    record {
      counters = f.counters ∙ ap (λ (of : List ℕ). counted_all of ys) e.counters ∙ sym (counted-append a xs ys);
      number = omega (arith, length-append xs ys);
      few = omega arith;
    }

-- the same cards, within a wider bound
pub counted_is : {a b xs ys : List ℕ} {k m l : ℕ} → Counted a b xs k m → xs ≡ ys → m ≤ l → Counted a b ys k l
counted_is {a} e same h = record { counters = e.counters ∙ ap (counted_all a) same; number = e.number ∙ ap length same; few = omega arith }

-- the same counters and number by other names
pub counted-at : {a b c xs : List ℕ} {k l m : ℕ} → c ≡ b → l ≡ k → Counted a b xs k m → Counted a c xs l m
counted-at e f counted = record { counters = e ∙ counted.counters; number = f ∙ counted.number; few = omega (arith, f, counted.few) }

module _ {A : Type 0} (f : A → List ℕ) (xs : List A) (most : ℕ) where
  -- nothing is counted yet
  pub counted_none : (a : List ℕ) → Counted a a (flat f (take 0 xs)) 0 (most * 0)
  unfolding counted_all flat
  counted_none a = record { counters = refl; number = refl; few = omega arith }

  -- one more part of several, each within the same bound
  pub counted_next : {a b c : List ℕ} {n k : ℕ} (i : ℕ) (d : A) → i < length xs → Counted a b (flat f (take i xs)) n (most * i) → Counted b c (f (get_or xs i d)) k most
      → Counted a c (flat f (take (i + 1) xs)) (n + k) (most * (i + 1))
  counted_next i d h e g = rw (flat-next f xs i d, mul-add, mul-one) (counted_join e g)
