-- Table blocks. One that is written holds its options and its order and passes every condition; one that passes them is what its options and its order are written to.
use mathlib.Core.Path.{◌≡◌, refl, sym, ◌∙◌, ap, ap₂}
use mathlib.Core.Bool.{Bool, true, not, ◌&&◌, and-eq-true_iff}
use mathlib.Core.List.{List, [], ◌∷◌, ◌++◌, append_assoc}
use Prim.Native.Nat.{ℕ, zero, suc, ◌+◌, ◌-◌, ◌*◌, ◌≤◌, ◌<◌}
use native.Mathlib.Omega.{arith}
use lib.Dec.{ltb, eqb}
use lib.ListN.{length, take, drop, get_or, replicate, length-append, length-drop, length-replicate, take-append-drop}
use lib.Seq.{length-take-le, take_at, drop_at, take-append-add, take-take, take-add, drop-cons, get_or-take, drop-drop, ext_get_or}
use borrow.Author.Tests.{ltb-true, lt-ltb, eqb-true, eq-eqb, not-false}
use Rattle.lists.specs.Sum.{count_of}
use Rattle.lists.specs.Tests.{all_of}
use Rattle.lists.specs.Below.{all_below}
use Rattle.lists.proofs.Parts.{part_of_take}
use Rattle.lists.proofs.Below.{all_below_lem, below_all}
use Rattle.call.specs.Refusal.{first}
use Rattle.call.proofs.Refusals.{none_hold, NoneHold, first-behind, first_past}
use Rattle.options.specs.declared.Options.{Options}
use Rattle.options.specs.Ranges.{in_range}
use Rattle.options.specs.Aids.Facts.{InRange}
use Rattle.options.proofs.Facts.{in_range_facts}
use Rattle.table.specs.Shoe.{valid_order}
use Rattle.cashier_spec.proofs.Order.{valid_length}
use Rattle.file_spec.specs.Block.{is_byte, Bytes, little_endian, number_of, content, checks, padded, sealed, zeros}
use Rattle.file_spec.specs.TableBlock.{option_bytes, table_block, options_in, cards_in, order_in, table_conditions, same_options, loaded_conditions}
use Rattle.file_spec.proofs.Alls.{all_cons, cons_all, all_append, all-part, all_rest, all_replicate, all_weaker}
use Rattle.file_spec.proofs.Numbers.{le_bytes, le_read, le_write}
use Rattle.file_spec.proofs.Sealing.{padded-length, padded_bytes, sealed-length, sealed-content, sealed_bytes, sealed-checks, checked_sealed}

-- zeros, and lists of zeros
pub zeros-replicate : (n : ℕ) → zeros (replicate n 0) ≡ true
zeros-replicate n = all_replicate (λ b. eqb b 0) n 0 refl

pub zeros_are : (bytes : List ℕ) → zeros bytes ≡ true → bytes ≡ replicate (length bytes) 0
zeros_are [] h = refl
zeros_are (b ∷ bytes) h = let (one, more) = all_cons (λ x. eqb x 0) b bytes h in ap₂ ◌∷◌ (eqb-true b 0 one) (zeros_are bytes more)

-- bytes and the zeros behind them
take-zeros : (n m : ℕ) → n ≤ m → take {A = ℕ} n (replicate m 0) ≡ replicate n 0
take-zeros zero m h = refl
take-zeros (suc n) zero h = absurd (omega arith)
take-zeros (suc n) (suc m) h = ap (λ (l : List ℕ). 0 ∷ l) (take-zeros n m (omega arith))

pub padded-split : (many : ℕ) (bytes : List ℕ) → length bytes ≤ many → padded many bytes ≡ bytes ++ replicate (many - length bytes) 0
padded-split many bytes h =
    let all : many ≡ length bytes + (many - length bytes) = omega arith in
    ap (λ (n : ℕ). take n (bytes ++ replicate many 0)) all
    ∙ take-append-add bytes (replicate many 0) (many - length bytes)
    ∙ ap (λ (l : List ℕ). bytes ++ l) (take-zeros (many - length bytes) many (omega arith))

-- the options' bytes read again
options_read : (o : Options) → InRange o → options_in (option_bytes o) ≡ o
unfolding options_in little_endian
options_read o facts =
    ap (λ (c : ℕ). with c (number_of (little_endian 4 o.smallest)) (number_of (little_endian 4 o.largest))) (le_read 2 o.cut (omega (arith, facts.cut_most, facts.decks_most)))
    ∙ ap₂ (with o.cut) (le_read 4 o.smallest (omega (arith, facts.smallest_most, facts.largest_most))) (le_read 4 o.largest (omega (arith, facts.largest_most)))
  where
    with : ℕ → ℕ → ℕ → Options
    with c s l =
        record {
          seats = o.seats;
          decks = o.decks;
          first = o.first;
          later = o.later;
          hands = o.hands;
          aces = o.aces;
          double = o.double;
          limit = o.limit;
          insurance = o.insurance;
          five = o.five;
          prize = o.prize;
          device = o.device;
          decider = o.decider;
          cut = c;
          smallest = s;
          largest = l;
        }

option_length : (o : Options) → length (option_bytes o) ≡ 23
unfolding little_endian
option_length o = refl

-- a block's options are read off its first 23 bytes
first_options : (block : List ℕ) → options_in (take 23 block) ≡ options_in block
unfolding options_in
first_options block =
    simp (
      get_or-take 23 block 0 0 (omega arith),
      get_or-take 23 block 1 0 (omega arith),
      get_or-take 23 block 2 0 (omega arith),
      get_or-take 23 block 3 0 (omega arith),
      get_or-take 23 block 4 0 (omega arith),
      get_or-take 23 block 5 0 (omega arith),
      get_or-take 23 block 6 0 (omega arith),
      get_or-take 23 block 7 0 (omega arith),
      get_or-take 23 block 8 0 (omega arith),
      get_or-take 23 block 9 0 (omega arith),
      get_or-take 23 block 10 0 (omega arith),
      get_or-take 23 block 11 0 (omega arith),
      get_or-take 23 block 12 0 (omega arith),
      part_of_take 2 13 23 block (omega arith),
      part_of_take 4 15 23 block (omega arith),
      part_of_take 4 19 23 block (omega arith),
    )

-- bytes that are the options' of a block: one for each of the first thirteen, then three numbers
next_byte : (l : List ℕ) (j n : ℕ) → j < length l → take (suc n) (drop j l) ≡ get_or l j 0 ∷ take n (drop (suc j) l)
next_byte l j n h = ap (take (suc n)) (drop-cons l j 0 h)

written_options : (block : List ℕ) → Bytes block → 23 ≤ length block → option_bytes (options_in block) ≡ take 23 block
unfolding options_in
written_options block h room =
    rw (
      numbers 2 13 (omega arith),
      numbers 4 15 (omega arith),
      numbers 4 19 (omega arith),
      next_byte block 0 22 (omega arith),
      next_byte block 1 21 (omega arith),
      next_byte block 2 20 (omega arith),
      next_byte block 3 19 (omega arith),
      next_byte block 4 18 (omega arith),
      next_byte block 5 17 (omega arith),
      next_byte block 6 16 (omega arith),
      next_byte block 7 15 (omega arith),
      next_byte block 8 14 (omega arith),
      next_byte block 9 13 (omega arith),
      next_byte block 10 12 (omega arith),
      next_byte block 11 11 (omega arith),
      next_byte block 12 10 (omega arith),
      take-add 2 8 (drop 13 block),
      drop-drop 2 13 block,
      take-add 4 4 (drop 15 block),
      drop-drop 4 15 block,
      append_assoc (take 2 (drop 13 block)) (take 4 (drop 15 block)) (take 4 (drop 19 block)),
    )
  where
    numbers : (k j : ℕ) → j + k ≤ 23 → little_endian k (number_of (take k (drop j block))) ≡ take k (drop j block)
    numbers k j fits =
        let len : length (take k (drop j block)) ≡ k = length-take-le k (drop j block) (omega (arith, length-drop j block)) in
        ap (λ (n : ℕ). little_endian n (number_of (take k (drop j block)))) (sym len) ∙ le_write (take k (drop j block)) (all-part is_byte k (drop j block) (all_rest is_byte j block h))

-- a valid order is one of bytes
pub order_bytes : (decks : ℕ) (order : List ℕ) → valid_order decks order ≡ true → Bytes order
unfolding valid_order
order_bytes decks order valid =
    let (both, faces) = (and-eq-true_iff (eqb (length order) (52 * decks) && all_of (λ card. ltb card 52) order) (all_below (λ face. eqb (count_of face order) decks) 52)).0 valid in
    let (long, cards) = (and-eq-true_iff (eqb (length order) (52 * decks)) (all_of (λ card. ltb card 52) order)).0 both in
    all_weaker (λ card. ltb card 52) is_byte (λ card small. lt-ltb card 256 (omega (arith, ltb-true card 52 small))) order cards

option_bytes_lem : (o : Options) → InRange o → Bytes (option_bytes o)
option_bytes_lem o facts =
    cons_all is_byte o.seats _ (lt-ltb o.seats 256 (omega (arith, facts.seats_most))) (
    cons_all is_byte o.decks _ (lt-ltb o.decks 256 (omega (arith, facts.decks_most))) (
    cons_all is_byte o.first _ (lt-ltb o.first 256 (omega (arith, facts.first_most))) (
    cons_all is_byte o.later _ (lt-ltb o.later 256 (omega (arith, facts.later_most))) (
    cons_all is_byte o.hands _ (lt-ltb o.hands 256 (omega (arith, facts.hands_most))) (
    cons_all is_byte o.aces _ (lt-ltb o.aces 256 (omega (arith, facts.aces_most))) (
    cons_all is_byte o.double _ (lt-ltb o.double 256 (omega (arith, facts.double_most))) (
    cons_all is_byte o.limit _ (lt-ltb o.limit 256 (omega (arith, facts.limit_most))) (
    cons_all is_byte o.insurance _ (lt-ltb o.insurance 256 (omega (arith, facts.insurance_most))) (
    cons_all is_byte o.five _ (lt-ltb o.five 256 (omega (arith, facts.five_most))) (
    cons_all is_byte o.prize _ (lt-ltb o.prize 256 (omega (arith, facts.prize_most))) (
    cons_all is_byte o.device _ (lt-ltb o.device 256 (omega (arith, facts.device_most))) (
    cons_all is_byte o.decider _ (lt-ltb o.decider 256 (omega (arith, facts.decider_most))) (
    all_append is_byte (little_endian 2 o.cut ++ little_endian 4 o.smallest) (little_endian 4 o.largest)
    (all_append is_byte (little_endian 2 o.cut) (little_endian 4 o.smallest) (le_bytes 2 o.cut) (le_bytes 4 o.smallest))
    (le_bytes 4 o.largest))))))))))))))

-- the conditions of a table block, asked of tests that pass
passes : (a b c d e : Bool) → a ≡ true → b ≡ true → c ≡ true → d ≡ true → e ≡ true → first ((25, not a) ∷ (26, not b) ∷ (26, not c) ∷ (26, not d) ∷ (26, not e) ∷ []) ≡ 0
unfolding first
passes a b c d e pa pb pc pd pe = rw (pa, pb, pc, pd, pe)

pub table_length : (o : Options) (order : List ℕ) → length (table_block o order) ≡ 512
unfolding table_block
table_length o order = sealed-length (padded 32 (option_bytes o) ++ order)

-- A table block that is written.
module _ (o : Options) (order : List ℕ) (range : in_range o ≡ true) (valid : valid_order o.decks order ≡ true) where
  abbrev block : List ℕ
  block = table_block o order

  abbrev facts : InRange o
  facts = in_range_facts o range

  cards : length order ≡ 52 * o.decks
  cards = valid_length o.decks order valid

  -- the zeros between options and order, and behind the order
  abbrev between : List ℕ
  between = replicate 9 0

  abbrev behind : List ℕ
  behind = replicate (476 - 52 * o.decks) 0

  options-padded : padded 32 (option_bytes o) ≡ option_bytes o ++ between
  unfolding little_endian
  options-padded = padded-split 32 (option_bytes o) (omega (arith, option_length o))

  body-length : length (padded 32 (option_bytes o) ++ order) ≡ 32 + 52 * o.decks
  body-length = length-append (padded 32 (option_bytes o)) order ∙ omega (arith, padded-length 32 (option_bytes o), cards)

  whole : content block ≡ option_bytes o ++ (between ++ (order ++ behind))
  unfolding table_block
  whole =
      let left : 508 - length (padded 32 (option_bytes o) ++ order) ≡ 476 - 52 * o.decks = omega (arith, body-length) in
      sealed-content (padded 32 (option_bytes o) ++ order)
      ∙ padded-split 508 (padded 32 (option_bytes o) ++ order) (omega (arith, body-length, facts.decks_most))
      ∙ ap₂ (λ (front : List ℕ) (n : ℕ). (front ++ order) ++ replicate n 0) options-padded left
      ∙ append_assoc (option_bytes o ++ between) order behind
      ∙ append_assoc (option_bytes o) between (order ++ behind)

  pub table_front : take 23 block ≡ option_bytes o
  table_front = sym (take-take 23 508 block (omega arith)) ∙ ap (take 23) whole ∙ take_at (option_bytes o) (between ++ (order ++ behind)) 23 (option_length o)

  pub table_options : options_in block ≡ o
  table_options = sym (first_options block) ∙ ap options_in table_front ∙ options_read o facts

  decks-are : get_or block 1 0 ≡ o.decks
  unfolding options_in
  decks-are = ap (λ (p : Options). p.decks) table_options

  past-options : drop 32 (content block) ≡ order ++ behind
  past-options =
      ap (drop 32) (whole ∙ sym (append_assoc (option_bytes o) between (order ++ behind)))
      ∙ drop_at (option_bytes o ++ between) (order ++ behind) 32 (length-append (option_bytes o) between ∙ omega (arith, option_length o, length-replicate {A = ℕ} 9 0))

  pub table_order_lem : order_in block ≡ order
  table_order_lem =
      ap (λ (n : ℕ). take (52 * n) (drop 32 block)) decks-are
      ∙ sym (part_of_take (52 * o.decks) 32 508 block (omega (arith, facts.decks_most)))
      ∙ ap (take (52 * o.decks)) past-options
      ∙ take_at order behind (52 * o.decks) cards

  between-zeros : zeros (take 9 (drop 23 block)) ≡ true
  between-zeros =
      ap zeros
      (sym (part_of_take 9 23 508 block (omega arith))
      ∙ ap (λ (l : List ℕ). take 9 (drop 23 l)) whole
      ∙ ap (take 9) (drop_at (option_bytes o) (between ++ (order ++ behind)) 23 (option_length o))
      ∙ take_at between (order ++ behind) 9 (length-replicate {A = ℕ} 9 0))
      ∙ zeros-replicate 9

  behind-zeros : zeros (drop (32 + cards_in block) (content block)) ≡ true
  behind-zeros =
      ap zeros
      (ap (λ (n : ℕ). drop (32 + 52 * n) (content block)) decks-are
      ∙ sym (drop-drop (52 * o.decks) 32 (content block))
      ∙ ap (drop (52 * o.decks)) past-options
      ∙ drop_at order behind (52 * o.decks) cards)
      ∙ zeros-replicate (476 - 52 * o.decks)

  pub table_bytes : Bytes block
  unfolding table_block
  table_bytes = sealed_bytes (padded 32 (option_bytes o) ++ order) (all_append is_byte (padded 32 (option_bytes o)) order (padded_bytes 32 (option_bytes o) (option_bytes_lem o facts)) (order_bytes o.decks order valid))

  pub table_checks : checks block ≡ true
  unfolding table_block
  table_checks = sealed-checks (padded 32 (option_bytes o) ++ order) (all_append is_byte (padded 32 (option_bytes o)) order (padded_bytes 32 (option_bytes o) (option_bytes_lem o facts)) (order_bytes o.decks order valid))

  pub table_accepted : first (table_conditions block) ≡ 0
  unfolding table_conditions
  table_accepted =
      passes (checks block) (in_range (options_in block)) (valid_order (get_or block 1 0) (order_in block)) (zeros (take 9 (drop 23 block))) (zeros (drop (32 + cards_in block) (content block)))
      table_checks
      (ap in_range table_options ∙ range)
      (ap₂ valid_order decks-are table_order_lem ∙ valid)
      between-zeros
      behind-zeros

-- two blocks whose first 23 bytes are the same have the same options, and the other way round
fronts_same : (one other : List ℕ) → take 23 one ≡ take 23 other → same_options one other ≡ true
fronts_same one other same =
    below_all (λ k. eqb (get_or one k 0) (get_or other k 0)) 23
    (λ k h. eq-eqb (get_or one k 0) (get_or other k 0) (sym (get_or-take 23 one k 0 h) ∙ ap (λ (l : List ℕ). get_or l k 0) same ∙ get_or-take 23 other k 0 h))

same_fronts : (one other : List ℕ) → length one ≡ 512 → length other ≡ 512 → same_options one other ≡ true → take 23 one ≡ take 23 other
same_fronts one other len-one len-other same =
    let long-one : length (take 23 one) ≡ 23 = length-take-le 23 one (omega arith) in
    let long-other : length (take 23 other) ≡ 23 = length-take-le 23 other (omega arith) in
    ext_get_or 0 (take 23 one) (take 23 other) (long-one ∙ sym long-other)
    (λ k h.
    let near : k < 23 = omega (arith, h, long-one) in
    get_or-take 23 one k 0 near ∙ eqb-true (get_or one k 0) (get_or other k 0) (all_below_lem (λ j. eqb (get_or one j 0) (get_or other j 0)) 23 k same near) ∙ sym (get_or-take 23 other k 0 near))

pub options_same : (start block : List ℕ) → length start ≡ 512 → length block ≡ 512 → same_options start block ≡ true → options_in block ≡ options_in start
options_same start block len-start len same = sym (first_options block) ∙ ap options_in (sym (same_fronts start block len-start len same)) ∙ first_options start

-- behind a load
pub loaded_accepted : (o : Options) (order loaded : List ℕ) → in_range o ≡ true → valid_order o.decks order ≡ true → valid_order o.decks loaded ≡ true
    → first (loaded_conditions (table_block o order) (table_block o loaded)) ≡ 0
unfolding loaded_conditions table_conditions all_of first
loaded_accepted o order loaded range valid-first valid =
    let same : same_options (table_block o order) (table_block o loaded) ≡ true =
    fronts_same (table_block o order) (table_block o loaded) (table_front o order range valid-first ∙ sym (table_front o loaded range valid)) in
    first-behind (table_conditions (table_block o loaded)) ((26, not (same_options (table_block o order) (table_block o loaded))) ∷ []) refl (table_accepted o loaded range valid)
    ∙ ap (λ (b : Bool). first ((26, not b) ∷ [])) same

pub loaded_table : (start block : List ℕ) → first (loaded_conditions start block) ≡ 0 → first (table_conditions block) ≡ 0
unfolding loaded_conditions table_conditions all_of
loaded_table start block passed = first_past (table_conditions block) ((26, not (same_options start block)) ∷ []) 0 refl passed

-- A block that passes the conditions of a table block.
module _ (block : List ℕ) (bytes : Bytes block) (len : length block ≡ 512) (passed : first (table_conditions block) ≡ 0) where
  tests : NoneHold (table_conditions block)
  unfolding table_conditions all_of
  tests = none_hold (table_conditions block) refl passed

  pub read_range : in_range (options_in block) ≡ true
  unfolding table_conditions
  read_range = not-false (in_range (options_in block)) tests.1.0

  pub read_valid : valid_order (options_in block).decks (order_in block) ≡ true
  unfolding table_conditions options_in
  read_valid = not-false (valid_order (get_or block 1 0) (order_in block)) tests.1.1.0

  -- its content: options, zeros, order, zeros
  parts : content block ≡ option_bytes (options_in block) ++ (replicate 9 0 ++ (order_in block ++ replicate (476 - 52 * (options_in block).decks) 0))
  unfolding table_conditions options_in
  parts =
      let n : ℕ = cards_in block in
      let room : n ≤ 416 = omega (arith, (in_range_facts (options_in block) read_range).decks_most) in
      let c : List ℕ = content block in
      let long : length c ≡ 508 = length-take-le 508 block (omega arith) in
      let front : take 23 c ≡ option_bytes (options_in block) = take-take 23 508 block (omega arith) ∙ sym (written_options block bytes (omega arith)) in
      let nine : take 9 (drop 23 c) ≡ take 9 (drop 23 block) = part_of_take 9 23 508 block (omega arith) in
      let nine-long : length (take 9 (drop 23 block)) ≡ 9 = length-take-le 9 (drop 23 block) (omega (arith, length-drop 23 block)) in
      let nine-zeros : take 9 (drop 23 block) ≡ replicate 9 0 =
      zeros_are (take 9 (drop 23 block)) (not-false (zeros (take 9 (drop 23 block))) tests.1.1.1.0) ∙ ap (λ (m : ℕ). replicate m 0) nine-long in
      let cards : take n (drop 32 c) ≡ order_in block = part_of_take n 32 508 block (omega arith) in
      let rest-long : length (drop (32 + n) c) ≡ 476 - n = length-drop (32 + n) c ∙ omega (arith, long) in
      let rest : drop (32 + n) c ≡ replicate (476 - n) 0 =
      zeros_are (drop (32 + n) c) (not-false (zeros (drop (32 + n) c)) tests.1.1.1.1.0) ∙ ap (λ (m : ℕ). replicate m 0) rest-long in
      sym (take-append-drop 23 c)
      ∙ ap₂ ◌++◌ front
      (sym (take-append-drop 9 (drop 23 c))
      ∙ ap₂ ◌++◌ (nine ∙ nine-zeros) (drop-drop 9 23 c ∙ sym (take-append-drop n (drop 32 c)) ∙ ap₂ ◌++◌ cards (drop-drop n 32 c ∙ rest)))

  pub read_table : block ≡ table_block (options_in block) (order_in block)
  unfolding table_conditions
  read_table =
      let o : Options = options_in block in
      let order : List ℕ = order_in block in
      checked_sealed block bytes len (not-false (checks block) tests.0)
      ∙ ap sealed (parts ∙ sym (whole o order read_range read_valid))
      ∙ sym (checked_sealed (table_block o order) (table_bytes o order read_range read_valid) (table_length o order) (table_checks o order read_range read_valid))
