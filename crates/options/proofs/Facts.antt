-- Options in range, as the facts of `InRange`: each test of a range gives its two orders.
use mathlib.Core.Path.{◌≡◌}
use mathlib.Core.Bool.{Bool, true, false, cond, ◌&&◌, and-eq-true_iff}
use Prim.Native.Nat.{ℕ, ◌*◌, ◌≤◌, ◌<◌, zero-le}
use native.Mathlib.Nat.{le_refl}
use native.Mathlib.Omega.{arith}
use lib.Dec.{leb}
use lib.ListN.{get_or}
use borrow.Author.Tests.{leb-true, eqb-true}
use Rattle.lists.specs.Tests.{all_of}
use Rattle.lists.proofs.Tests.{all-at}
use Rattle.options.specs.declared.Options.{Options}
use Rattle.options.specs.declared.Bounds.{Bounds}
use Rattle.options.specs.Device.{is_box}
use Rattle.options.specs.Ranges.{range, within, most_decks, most_later, has_cut, least_cut, most_cut, ranges, is_even_number, in_range}
use Rattle.options.specs.Aids.Facts.{InRange}

-- a value within its range, as two orders
within_facts : (r : Bounds) → within r ≡ true → (r.least ≤ r.value) × (r.value ≤ r.most)
within_facts r e =
    let both = (and-eq-true_iff (leb r.least r.value) (leb r.value r.most)).0 e in
    (leb-true _ _ both.0, leb-true _ _ both.1)

-- the three tests of `in_range`
tests : (o : Options) → in_range o ≡ true → ((all_of within (ranges o) ≡ true) × (is_even_number o.smallest ≡ true)) × (is_even_number o.largest ≡ true)
unfolding in_range
tests o e =
    let both = (and-eq-true_iff (all_of within (ranges o) && is_even_number o.smallest) (is_even_number o.largest)).0 e in
    ((and-eq-true_iff (all_of within (ranges o)) (is_even_number o.smallest)).0 both.0, both.1)

-- the value at each place of the list lies in its range
range_at : (o : Options) → in_range o ≡ true → (k : ℕ) → k < 16 → let r = get_or (ranges o) k (range 0 0 0) in (r.least ≤ r.value) × (r.value ≤ r.most)
unfolding ranges
range_at o e k h = within_facts (get_or (ranges o) k (range 0 0 0)) (all-at within (ranges o) k (range 0 0 0) (tests o e).0.0 h)

-- without a cut too, no more than 26 cards for each deck
cond_most : (b : Bool) (n : ℕ) → cond b n 0 ≤ n
cond_most true n = le_refl n
cond_most false n = zero-le

-- of a box too, no more than the others' most
one_or_most : (b : Bool) (k n : ℕ) → k ≤ n → cond b k n ≤ n
one_or_most true k n h = h
one_or_most false k n h = le_refl n

pub in_range_facts : (o : Options) → in_range o ≡ true → InRange o
unfolding ranges
in_range_facts o e =
    let decks : (1 ≤ o.decks) × (o.decks ≤ most_decks o) = range_at o e 1 (omega arith) in
    let later : (0 ≤ o.later) × (o.later ≤ most_later o) = range_at o e 3 (omega arith) in
    let cut : (least_cut o ≤ o.cut) × (o.cut ≤ most_cut o) = range_at o e 13 (omega arith) in
    record {
      seats_least = (range_at o e 0 (omega arith)).0;
      seats_most = (range_at o e 0 (omega arith)).1;
      decks_least = (range_at o e 1 (omega arith)).0;
      decks_most = omega (arith, one_or_most (is_box o) 1 8 (omega arith));
      first_least = (range_at o e 2 (omega arith)).0;
      first_most = (range_at o e 2 (omega arith)).1;
      later_most = omega (arith, one_or_most (is_box o) 0 2 (omega arith));
      hands_least = (range_at o e 4 (omega arith)).0;
      hands_most = (range_at o e 4 (omega arith)).1;
      aces_most = (range_at o e 5 (omega arith)).1;
      double_least = (range_at o e 6 (omega arith)).0;
      double_most = (range_at o e 6 (omega arith)).1;
      limit_most = (range_at o e 7 (omega arith)).1;
      insurance_least = (range_at o e 8 (omega arith)).0;
      insurance_most = (range_at o e 8 (omega arith)).1;
      five_most = (range_at o e 9 (omega arith)).1;
      prize_most = (range_at o e 10 (omega arith)).1;
      device_least = (range_at o e 11 (omega arith)).0;
      device_most = (range_at o e 11 (omega arith)).1;
      decider_least = (range_at o e 12 (omega arith)).0;
      decider_most = (range_at o e 12 (omega arith)).1;
      box_decks = λ box. omega (arith, (range_at o e 1 (omega arith)).0, simp box at decks.1);
      box_later = λ box. omega (arith, simp box at later.1);
      cut_most = omega (arith, cond_most (has_cut o) (26 * o.decks));
      smallest_least = (range_at o e 14 (omega arith)).0;
      smallest_most = (range_at o e 14 (omega arith)).1;
      largest_most = (range_at o e 15 (omega arith)).1;
      smallest_even = eqb-true _ _ (tests o e).0.1;
      largest_even = eqb-true _ _ (tests o e).1;
    }
