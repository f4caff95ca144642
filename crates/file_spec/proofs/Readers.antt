-- A reader of an accepted file: from the place of a call it hands out that call and comes to the place of the next one, in the same block, or in the next call block, so that the calls of every block come
-- one after the other.
use mathlib.Core.Path.{◌≡◌, refl, sym, ◌∙◌, ap, ap₂, subst}
use mathlib.Core.Bool.{Bool, true, false, cond, ◌&&◌, true≢false}
use mathlib.Core.List.{List, [], ◌∷◌, ◌++◌, map}
use Prim.Native.Nat.{ℕ, zero, suc, ◌+◌, ◌-◌, ◌*◌, ◌/◌, ◌%◌, ◌≤◌, ◌<◌}
use native.Mathlib.Decide.{dec_le}
use native.Mathlib.Omega.{arith}
use lib.Dec.{leb}
use lib.ListN.{length, take, drop, get_or, length-drop}
use lib.Seq.{length-take-le, drop-drop, drop-cons, get_or-take, get_or-drop, drop-length}
use borrow.Author.Tests.{lt-ltb, le-ltb, le-leb, lt-leb, eq-eqb}
use Rattle.lists.proofs.Tests.{any_not_at}
use Rattle.lists.proofs.Parts.{part_of_take}
use Rattle.call.specs.Refusal.{first}
use Rattle.history.specs.Entry.{Entry}
use Rattle.options.proofs.Facts.{in_range_facts}
use Rattle.file_spec.specs.Block.{is_byte, Bytes, pieces}
use Rattle.file_spec.specs.TableBlock.{options_in, loaded_conditions}
use Rattle.file_spec.specs.CallBlock.{codes_in, code_call, many_in, is_load_code, ends_in_load, call_conditions}
use Rattle.file_spec.specs.Number.{is_end, number_behind, file_blocks, file_number}
use Rattle.file_spec.specs.Handed.{code_entry, next_order, calls_behind, behind_first, file_calls}
use Rattle.file_spec.specs.Reader.{call_place, first_place, code_of, start_of, many_of, place_behind, order_at, handed_at, Reads}
use Rattle.file_spec.proofs.Alls.{all-part, all_rest}
use Rattle.file_spec.proofs.Pieces.{piece_at}
use Rattle.file_spec.proofs.TableBlocks.{loaded_table, read_range}
use Rattle.file_spec.proofs.CallBlocks.{read_many, no_early, read_end, codes_many}
use Rattle.file_spec.proofs.OneFile.{both_zero, end_code, some_bytes, whole_blocks, number_behind_lem}

and_of_true : (a b : Bool) → b ≡ true → a && b ≡ false → a ≡ false
and_of_true true b e h = absurd (true≢false (sym e ∙ h))
and_of_true false b e h = refl

module _ (file : List ℕ) (bytes : Bytes file) where
  -- One block, the one of number q, in which the call of number i lies at this place.
  abbrev block_at : ℕ → List ℕ
  block_at q = take 512 (drop (512 * q) file)

  abbrev place_at : ℕ → ℕ → ℕ
  place_at q i = 512 * q + (1 + 10 * i)

  module _ (q : ℕ) (inside : 512 * q + 512 ≤ length file) where
    block_length : length (block_at q) ≡ 512
    block_length = length-take-le 512 (drop (512 * q) file) (omega (arith, length-drop (512 * q) file))

    block-bytes : Bytes (block_at q)
    block-bytes = all-part is_byte 512 (drop (512 * q) file) (all_rest is_byte (512 * q) file bytes)

    byte_of : (i : ℕ) → i < 512 → get_or (block_at q) i 0 ≡ get_or file (512 * q + i) 0
    byte_of i h = get_or-take 512 (drop (512 * q) file) i 0 h ∙ get_or-drop (512 * q) file i 0

    -- m bytes of it from place n on
    part : (m n : ℕ) → n + m ≤ 512 → take m (drop n (block_at q)) ≡ take m (drop (512 * q + n) file)
    part m n h = part_of_take m n 512 (drop (512 * q) file) h ∙ ap (take m) (drop-drop n (512 * q) file)

    start_is : (i : ℕ) → i < 50 → start_of (place_at q i) ≡ 512 * q
    start_is i h = omega arith

    code_is : (i : ℕ) → i < many_in (block_at q) → i < 50 → code_of file (place_at q i) ≡ get_or (codes_in (block_at q)) i []
    unfolding codes_in
    code_is i h few =
        sym (piece_at 10 (many_in (block_at q)) (drop 1 (block_at q)) i h ∙ ap (take 10) (drop-drop (10 * i) 1 (block_at q)) ∙ part 10 (1 + 10 * i) (omega arith))

    many_is : (i : ℕ) → i < 50 → many_of file (place_at q i) ≡ many_in (block_at q)
    many_is i h =
        let first_byte : 512 * q ≡ 512 * q + 0 = omega arith in
        ap (λ (p : ℕ). get_or file p 0) (start_is i h ∙ first_byte) ∙ sym (byte_of 0 (omega arith))

    -- the call of number i is handed out
    found-is : (i : ℕ) → i < 50 → (handed_at file (place_at q i)).found ≡ true
    unfolding handed_at
    found-is i h = rw (le-leb (place_at q i + 10) (length file) (omega arith))

    call-is : (i : ℕ) → i < 50 → (handed_at file (place_at q i)).call ≡ code_call (code_of file (place_at q i))
    unfolding handed_at
    call-is i h = rw (le-leb (place_at q i + 10) (length file) (omega arith))

    order_is : (i : ℕ) → i < 50 → (handed_at file (place_at q i)).order ≡ order_at file (place_at q i)
    unfolding handed_at
    order_is i h = rw (le-leb (place_at q i + 10) (length file) (omega arith))

    behind_is : (i : ℕ) → i < 50 → (handed_at file (place_at q i)).behind ≡ place_behind file (place_at q i)
    unfolding handed_at
    behind_is i h = rw (le-leb (place_at q i + 10) (length file) (omega arith))

    -- the place behind it: of the next call in the block, or behind the block
    next_place : (i : ℕ) → i + 1 < many_in (block_at q) → i + 1 < 50 → place_behind file (place_at q i) ≡ place_at q (i + 1)
    unfolding place_behind
    next_place i h few =
        let more : leb (place_at q i % 512 + 10) (10 * many_of file (place_at q i)) ≡ true = le-leb (place_at q i % 512 + 10) (10 * many_of file (place_at q i)) (omega (arith, many_is i (omega arith))) in
        ap (λ (b : Bool). cond b (place_at q i + 10) (call_place file (start_of (place_at q i) + cond (is_load_code (code_of file (place_at q i))) 1024 512))) more ∙ omega arith

    last-place : (i : ℕ) (load : Bool) → i + 1 ≡ many_in (block_at q) → i < 50 → is_load_code (code_of file (place_at q i)) ≡ load → place_behind file (place_at q i) ≡ call_place file (512 * (q + 1) + cond load 512 0)
    unfolding place_behind
    last-place i load h few l =
        let none : leb (place_at q i % 512 + 10) (10 * many_of file (place_at q i)) ≡ false = lt-leb (place_at q i % 512 + 10) (10 * many_of file (place_at q i)) (omega (arith, many_is i few)) in
        ap (λ (b : Bool). cond b (place_at q i + 10) (call_place file (start_of (place_at q i) + cond (is_load_code (code_of file (place_at q i))) 1024 512))) none
        ∙ ap₂ (λ (p : ℕ) (b : Bool). call_place file (p + cond b 1024 512)) (start_is i few) l
        ∙ ap (call_place file) (far load)
      where
        far : (b : Bool) → 512 * q + cond b 1024 512 ≡ 512 * (q + 1) + cond b 512 0
        far true = omega arith
        far false = omega arith

    -- A call block that passes, with what is lent to a load of it, and the calls behind it.
    module _ (last : Bool) (passed : first (call_conditions last (block_at q)) ≡ 0) (lent : List ℕ) (tail : List Entry)
        (order-lent : ends_in_load (block_at q) ≡ true → take (52 * get_or file (512 * q + 513) 0) (drop (512 * q + 544) file) ≡ lent)
        (rest : Reads file (call_place file (512 * (q + 1) + cond (ends_in_load (block_at q)) 512 0)) tail) where
      abbrev codes : List (List ℕ)
      codes = codes_in (block_at q)

      abbrev n : ℕ
      n = many_in (block_at q)

      few : n ≤ 50
      few = (read_many last (block_at q) block-bytes block_length passed).1

      long : length codes ≡ n
      long = codes_many last (block_at q) block-bytes block_length passed

      -- a load can only be the last
      load-ends : (i : ℕ) → i < n → is_load_code (get_or codes i []) ≡ true → ends_in_load (block_at q) ≡ true
      load-ends i h load = go (dec_le (n - 1) i)
        where
          go : Dec (n - 1 ≤ i) → ends_in_load (block_at q) ≡ true
          go (yes le) =
              let here : n - 1 ≡ i = omega arith in
              sym (end_code last (block_at q) block-bytes block_length passed) ∙ ap (λ (k : ℕ). is_load_code (get_or codes k [])) here ∙ load
          go (no gt) =
              let near : i < n - 1 = omega arith in
              let none : is_load_code (get_or (take (n - 1) codes) i []) ≡ false =
              any_not_at is_load_code (take (n - 1) codes) i [] (omega (arith, near, long, length-take-le (n - 1) codes (omega (arith, long)))) (no_early last (block_at q) block-bytes block_length passed) in
              absurd (true≢false (sym load ∙ ap is_load_code (sym (get_or-take (n - 1) codes i [] near)) ∙ none))

      same_order : (i : ℕ) → i < n → order_at file (place_at q i) ≡ (code_entry lent (get_or codes i [])).order
      same_order i h =
          ap (λ (code : List ℕ). cond (is_load_code code) (take (52 * get_or file (start_of (place_at q i) + 513) 0) (drop (start_of (place_at q i) + 544) file)) []) (code_is i h (omega (arith, few)))
          ∙ go (is_load_code (get_or codes i [])) refl
        where
          go : (load : Bool) → is_load_code (get_or codes i []) ≡ load
              → cond load (take (52 * get_or file (start_of (place_at q i) + 513) 0) (drop (start_of (place_at q i) + 544) file)) [] ≡ cond load lent []
          go true e = ap (λ (p : ℕ). take (52 * get_or file (p + 513) 0) (drop (p + 544) file)) (start_is i (omega (arith, few))) ∙ order-lent (load-ends i h e)
          go false e = refl

      -- the call of number i and those behind it
      one-read : (i : ℕ) (es : List Entry) → i < n → Reads file (place_behind file (place_at q i)) es → Reads file (place_at q i) (code_entry lent (get_or codes i []) ∷ es)
      unfolding Reads
      one-read i es h more =
          let near : i < 50 = omega (arith, few) in (
            found-is i near,
            call-is i near ∙ ap code_call (code_is i h near),
            order_is i near ∙ same_order i h,
            subst (λ (p : ℕ). Reads file p es) (sym (behind_is i near)) more,
          )

      from-code : (i : ℕ) → i < n → drop i codes ≡ get_or codes i [] ∷ drop (suc i) codes
      from-code i h = drop-cons codes i [] (omega (arith, h, long))

      abbrev entries_from : ℕ → List Entry
      entries_from i = map (code_entry lent) (drop i codes) ++ tail

      reads-from : (k i : ℕ) → i + suc k ≡ n → Reads file (place_at q i) (entries_from i)
      reads-from zero i e =
          let here : i < n = omega arith in
          let none : drop (suc i) codes ≡ [] = let all : suc i ≡ length codes = omega (arith, e, long) in ap (λ (m : ℕ). drop m codes) all ∙ drop-length codes in
          let last-load : is_load_code (code_of file (place_at q i)) ≡ ends_in_load (block_at q) =
          let at-end : i ≡ n - 1 = omega arith in
          ap is_load_code (code_is i here (omega (arith, few)))
          ∙ ap (λ (m : ℕ). is_load_code (get_or codes m [])) at-end
          ∙ end_code last (block_at q) block-bytes block_length passed in
          subst (λ (l : List (List ℕ)). Reads file (place_at q i) (map (code_entry lent) l ++ tail)) (sym (from-code i here ∙ ap (λ (l : List (List ℕ)). get_or codes i [] ∷ l) none))
          (one-read i tail here (subst (λ (p : ℕ). Reads file p tail) (sym (last-place i (ends_in_load (block_at q)) (omega arith) (omega (arith, few)) last-load)) rest))
      reads-from (suc k) i e =
          let here : i < n = omega arith in
          let next : suc i ≡ i + 1 = omega arith in
          let more : Reads file (place_at q (suc i)) (entries_from (suc i)) = reads-from k (suc i) (omega arith) in
          subst (λ (l : List (List ℕ)). Reads file (place_at q i) (map (code_entry lent) l ++ tail)) (sym (from-code i here))
          (one-read i (entries_from (suc i)) here
          (subst (λ (p : ℕ). Reads file p (entries_from (suc i))) (ap (place_at q) next ∙ sym (next_place i (omega arith) (omega (arith, few)))) more))

  -- The blocks from number q on.
  abbrev blocks_from : ℕ → ℕ → List (List ℕ)
  blocks_from q m = pieces 512 m (drop (512 * q) file)

  block-and-others : (q m : ℕ) → blocks_from q (suc m) ≡ block_at q ∷ blocks_from (q + 1) m
  unfolding pieces
  block-and-others q m =
      let far : 512 * q + 512 ≡ 512 * (q + 1) = omega arith in
      ap (λ (l : List ℕ). block_at q ∷ pieces 512 m l) (drop-drop 512 (512 * q) file ∙ ap (λ (p : ℕ). drop p file) far)

  -- where the file ends, and where a block begins
  at-end : (p : ℕ) → length file ≤ p → call_place file p ≡ length file
  at-end p h = ap (λ (b : Bool). cond b (p + 1) (length file)) (le-ltb p (length file) h)

  nothing_left : (handed_at file (length file)).found ≡ false
  unfolding handed_at
  nothing_left = rw (lt-leb (length file + 10) (length file) (omega arith))

  module _ (start : List ℕ) where
    -- the order that a load reads is that of the table block behind it
    order-behind : (q m : ℕ) → 512 * (q + suc m) ≡ length file → number_behind start true (blocks_from (q + 1) m) ≡ 0 → is_end (blocks_from (q + 1) m) ≡ false
        → take (52 * get_or file (512 * q + 513) 0) (drop (512 * q + 544) file) ≡ next_order (blocks_from (q + 1) m)
    unfolding pieces is_end number_behind next_order options_in
    order-behind q zero all h more = absurd (true≢false more)
    order-behind q (suc m) all h more =
        let table : List ℕ = block_at (q + 1) in
        let inside : 512 * (q + 1) + 512 ≤ length file = omega arith in
        let number : (first (loaded_conditions start table) ≡ 0) × (number_behind start false (pieces 512 m (drop 512 (drop (512 * (q + 1)) file))) ≡ 0) =
        both_zero (first (loaded_conditions start table)) (number_behind start false (pieces 512 m (drop 512 (drop (512 * (q + 1)) file)))) h in
        let decks : get_or table 1 0 ≤ 8 =
        (in_range_facts (options_in table) (read_range table (block-bytes (q + 1) inside) (block_length (q + 1) inside) (loaded_table start table number.0))).decks_most in
        let second : 512 * q + 513 ≡ 512 * (q + 1) + 1 = omega arith in
        let cards : 512 * q + 544 ≡ 512 * (q + 1) + 32 = omega arith in
        sym (part (q + 1) inside (52 * get_or table 1 0) 32 (omega (arith, decks))
        ∙ ap₂ (λ (d p : ℕ). take (52 * d) (drop p file)) (byte_of (q + 1) inside 1 (omega arith) ∙ ap (λ (p : ℕ). get_or file p 0) (sym second)) (sym cards))

    -- a call block, and the blocks behind it
    reads-block : (m q : ℕ) → 512 * (q + suc m) ≡ length file → number_behind start false (block_at q ∷ blocks_from (q + 1) m) ≡ 0
        → Reads file (call_place file (512 * (q + 1) + cond (ends_in_load (block_at q)) 512 0)) (calls_behind (ends_in_load (block_at q)) (blocks_from (q + 1) m))
        → Reads file (call_place file (512 * q + 0)) (calls_behind false (block_at q ∷ blocks_from (q + 1) m))
    unfolding number_behind calls_behind
    reads-block m q all h rest =
        let others : List (List ℕ) = blocks_from (q + 1) m in
        let inside : 512 * q + 512 ≤ length file = omega arith in
        let number : (first (call_conditions (is_end others) (block_at q)) ≡ 0) × (number_behind start (ends_in_load (block_at q)) others ≡ 0) =
        both_zero (first (call_conditions (is_end others) (block_at q))) (number_behind start (ends_in_load (block_at q)) others) h in
        let many : (1 ≤ many_in (block_at q)) × (many_in (block_at q) ≤ 50) = read_many (is_end others) (block_at q) (block-bytes q inside) (block_length q inside) number.0 in
        let here : call_place file (512 * q + 0) ≡ place_at q 0 =
        ap (λ (b : Bool). cond b (512 * q + 0 + 1) (length file)) (lt-ltb (512 * q + 0) (length file) (omega arith)) ∙ omega arith in
        subst (λ (p : ℕ). Reads file p (map (code_entry (next_order others)) (codes_in (block_at q)) ++ calls_behind (ends_in_load (block_at q)) others)) (sym here)
        (reads-from q inside (is_end others) number.0 (next_order others) (calls_behind (ends_in_load (block_at q)) others)
        (λ ends.
        order-behind q m all (subst (λ (b : Bool). number_behind start b others ≡ 0) ends number.1)
        (and_of_true (is_end others) (ends_in_load (block_at q)) ends (read_end (is_end others) (block_at q) (block-bytes q inside) (block_length q inside) number.0)))
        rest (many_in (block_at q) - 1) 0 (omega (arith, many)))

    reads-blocks : (m q : ℕ) (loaded : Bool) → 512 * (q + m) ≡ length file → number_behind start loaded (blocks_from q m) ≡ 0 → Reads file (call_place file (512 * q + cond loaded 512 0)) (calls_behind loaded (blocks_from q m))
    unfolding pieces calls_behind number_behind Reads
    reads-blocks zero q loaded all h = ap (λ (p : ℕ). (handed_at file p).found) (at-end (512 * q + cond loaded 512 0) (omega arith)) ∙ nothing_left
    reads-blocks (suc m) q true all h =
        let far : 512 * (q + 1) + 0 ≡ 512 * q + 512 = omega arith in
        let passed : number_behind start true (block_at q ∷ blocks_from (q + 1) m) ≡ 0 = sym (ap (number_behind start true) (block-and-others q m)) ∙ h in
        let number : (first (loaded_conditions start (block_at q)) ≡ 0) × (number_behind start false (blocks_from (q + 1) m) ≡ 0) =
        both_zero (first (loaded_conditions start (block_at q))) (number_behind start false (blocks_from (q + 1) m)) passed in
        subst (λ (blocks : List (List ℕ)). Reads file (call_place file (512 * q + 512)) (calls_behind true blocks)) (sym (block-and-others q m))
        (subst (λ (p : ℕ). Reads file (call_place file p) (calls_behind false (blocks_from (q + 1) m))) far (reads-blocks m (q + 1) false (omega arith) number.1))
    reads-blocks (suc m) q false all h =
        let passed : number_behind start false (block_at q ∷ blocks_from (q + 1) m) ≡ 0 = sym (ap (number_behind start false) (block-and-others q m)) ∙ h in
        let number : (first (call_conditions (is_end (blocks_from (q + 1) m)) (block_at q)) ≡ 0) × (number_behind start (ends_in_load (block_at q)) (blocks_from (q + 1) m) ≡ 0) =
        both_zero (first (call_conditions (is_end (blocks_from (q + 1) m)) (block_at q))) (number_behind start (ends_in_load (block_at q)) (blocks_from (q + 1) m)) passed in
        subst (λ (blocks : List (List ℕ)). Reads file (call_place file (512 * q + 0)) (calls_behind false blocks)) (sym (block-and-others q m))
        (reads-block m q all passed (reads-blocks m (q + 1) (ends_in_load (block_at q)) (omega arith) number.1))

-- from the first call on
pub reads_all : (file : List ℕ) → Bytes file → file_number file ≡ 0 → Reads file (first_place file) (file_calls file)
unfolding first_place file_calls behind_first pieces
reads_all file bytes h =
    let k : ℕ = length file / 512 - 1 in
    let some : length file / 512 ≡ suc k = omega (arith, some_bytes file h, whole_blocks file h) in
    let others : behind_first (file_blocks file) ≡ pieces 512 k (drop 512 file) = ap (λ (m : ℕ). behind_first (pieces 512 m file)) some in
    let begins : first_place file ≡ call_place file 512 = ap (λ (b : Bool). cond b (call_place file 512) (length file)) (eq-eqb (file_number file) 0 h) in
    subst (λ (p : ℕ). Reads file p (file_calls file)) (sym begins)
    (subst (λ (blocks : List (List ℕ)). Reads file (call_place file 512) (calls_behind false blocks)) (sym others)
    (reads-blocks file bytes (take 512 file) k 1 false (omega (arith, some, whole_blocks file h)) (sym (ap (number_behind (take 512 file) false) others) ∙ (number_behind_lem file h).1)))
