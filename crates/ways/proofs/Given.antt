-- What the numbers 1, 5 and 13 leave: a table with no number is not broken, and its count and the list at a place are those of the definition.
use mathlib.Core.Path.{◌≡◌, refl, sym, ◌∙◌, ap}
use mathlib.Core.Bool.{Bool, true, false, cond}
use mathlib.Core.List.{List, []}
use Prim.Native.Nat.{ℕ, ◌<◌, ◌≤◌}
use lib.Dec.{eqb}
use lib.IntN.{ℤ}
use lib.ListN.{length, get_or}
use borrow.Author.Tests.{ne_eqb, lt-ltb, le-ltb}
use Rattle.lists.specs.Tests.{all_of}
use Rattle.call.proofs.Refusals.{none_hold}
use Rattle.table.specs.declared.Table.{Table}
use Rattle.table.specs.Broken.{broken}
use Rattle.ways.specs.declared.WaysCount.{WaysCount}
use Rattle.ways.specs.Ways.{ways}
use Rattle.ways.specs.Sum.{way_sum}
use Rattle.ways.specs.Number.{ways_conditions, ways_number, count_of_ways, make_way, no_way, way_at}

abbrev make_count : ℕ → ℕ → WaysCount
make_count number count = record { number = number; count = count }

module _ (t : Table) where
  pub number-unbroken : ways_number t ≡ 0 → broken t ≡ false
  unfolding ways_number ways_conditions all_of
  number-unbroken e = (none_hold (ways_conditions t) refl e).0

  pub count-refused : (n : ℕ) → n ≡ ways_number t → (n ≡ 0 → ⊥) → make_count n 0 ≡ count_of_ways t
  unfolding count_of_ways
  count-refused n e some =
      ap (λ (k : ℕ). make_count k 0) e ∙ ap (λ (b : Bool). make_count (ways_number t) (cond b (length (ways t)) 0)) (sym (ne_eqb (ways_number t) 0 (λ z. some (e ∙ z))))

  pub count-given : (n : ℕ) → ways_number t ≡ 0 → n ≡ length (ways t) → make_count 0 n ≡ count_of_ways t
  unfolding count_of_ways
  count-given n e same = ap (make_count 0) same ∙ ap (λ (k : ℕ). make_count k (cond (eqb k 0) (length (ways t)) 0)) (sym e)

  -- the list at a place: none beside a number and none past the last
  pub way-refused : (place : ℕ) → (ways_number t ≡ 0 → ⊥) → no_way (ways_number t) ≡ way_at t place
  unfolding way_at
  way-refused place some = simp (ne_eqb (ways_number t) 0 some)

  pub way_past : (place : ℕ) → ways_number t ≡ 0 → length (ways t) ≤ place → no_way 0 ≡ way_at t place
  unfolding way_at
  way_past place e past = simp (e, le-ltb place (length (ways t)) past)

  pub way_found : (place : ℕ) → ways_number t ≡ 0 → place < length (ways t) → (decisions : List ℕ) (sum : ℤ) → decisions ≡ get_or (ways t) place [] → sum ≡ way_sum t (get_or (ways t) place [])
      → make_way 0 true decisions sum ≡ way_at t place
  unfolding way_at
  way_found place e inside decisions sum same comes = simp (e, lt-ltb place (length (ways t)) inside, same, comes)
