-- Call blocks. One that is written holds its calls and passes every condition; one that passes them is what its calls are written to.
use mathlib.Core.Path.{◌≡◌, refl, sym, ◌∙◌, ap, ap₂}
use mathlib.Core.Bool.{Bool, true, false, not, ◌&&◌, ◌||◌, true≢false}
use mathlib.Core.List.{List, [], ◌∷◌, ◌++◌, map, append_assoc}
use Prim.Native.Nat.{ℕ, zero, suc, ◌+◌, ◌-◌, ◌*◌, ◌≤◌, ◌<◌}
use native.Mathlib.Omega.{arith}
use lib.Dec.{ltb, eqb}
use lib.ListN.{length, take, drop, get_or, replicate, length-drop, length-map, take-append-drop}
use lib.Seq.{length-take-le, drop_at, get_or-take, drop-drop, drop-cons}
use borrow.Author.Tests.{lt-ltb, ltb-false, le-ltb, eqb-true, eqb-false, eq-eqb, ne_eqb, not-true, not-false}
use Rattle.lists.specs.Tests.{all_of, any_of}
use Rattle.lists.specs.Flat.{flat}
use Rattle.lists.proofs.Flats.{flat_map}
use Rattle.lists.proofs.Parts.{any_map, part_of_take}
use Rattle.lists.proofs.Places.{map-take}
use Rattle.lists.proofs.Tests.{or_eq_false, all-at, any_not_at}
use Rattle.call.specs.declared.Call.{Call}
use Rattle.call.specs.Call.{kind}
use Rattle.call.specs.Refusal.{first}
use Rattle.call.proofs.Refusals.{none_hold, NoneHold}
use Rattle.file_spec.specs.Block.{is_byte, Bytes, little_endian, weighed, content, checks, padded, sealed, zeros, pieces}
use Rattle.file_spec.specs.CallBlock.{most, call_bytes, call_block, many_in, codes_in, code_kind, code_seat, code_amount, code_call, has_seat, has_amount, wrong_kind, stray_seat, stray_amount, is_load_code, ends_in_load, call_conditions}
use Rattle.file_spec.specs.File.{fits}
use Rattle.file_spec.proofs.Alls.{all_cons, cons_all, all_rest}
use Rattle.file_spec.proofs.Pieces.{is_sized, Sized, AllBytes, joined, joined_length, joined_bytes, joined-pieces, pieces-joined, pieces-length, pieces_sized, pieces_bytes}
use Rattle.file_spec.proofs.Sealing.{padded-whole, sealed-length, sealed-content, sealed_bytes, sealed-checks, checked_sealed}
use Rattle.file_spec.proofs.TableBlocks.{zeros-replicate, zeros_are, padded-split}
use Rattle.file_spec.proofs.Codes.{call_length, Fits, fits_facts, call_bytes_lem, right_kind, no_stray_seat, no_stray_amount, Passes, code_write}

-- a call that is a load by its kind
abbrev pub is_load_call : Call → Bool
is_load_call c = eqb (kind c) 17

-- where every element fails a test, some element passing it is false
pub none_any : {A : Type 0} (f : A → Bool) (xs : List A) → all_of (λ x. not (f x)) xs ≡ true → any_of f xs ≡ false
unfolding any_of
none_any f [] h = refl
none_any f (x ∷ xs) h = let (one, more) = all_cons (λ y. not (f y)) x xs h in ap₂ ◌||◌ (not-true (f x) one) (none_any f xs more)

map-drop : {A B : Type 0} (f : A → B) (n : ℕ) (xs : List A) → map f (drop n xs) ≡ drop n (map f xs)
map-drop f zero xs = refl
map-drop f (suc n) [] = refl
map-drop f (suc n) (x ∷ xs) = map-drop f n xs

flat-same : {A B : Type 0} (f g : A → List B) (xs : List A) (d : A) → ((i : ℕ) → i < length xs → f (get_or xs i d) ≡ g (get_or xs i d)) → flat f xs ≡ flat g xs
unfolding flat
flat-same f g [] d h = refl
flat-same f g (x ∷ xs) d h = ap₂ ◌++◌ (h 0 (omega arith)) (flat-same f g xs d (λ i lt. h (suc i) (omega arith)))

-- what a kind has none of is 0
stray : (has : Bool) (n : ℕ) → has ≡ false → not has && not (eqb n 0) ≡ false → n ≡ 0
stray true n none h = absurd (true≢false none)
stray false n none h = eqb-true n 0 (not-false (eqb n 0) h)

-- blocks are the same where what they hold is, with the zeros behind it
sealed-same : (a b : List ℕ) → padded 508 a ≡ padded 508 b → sealed a ≡ sealed b
unfolding sealed
sealed-same a b same = ap (λ (l : List ℕ). l ++ little_endian 4 (weighed 0 l)) same

-- the ten bytes of calls that fit
codes_sized : (calls : List Call) → Sized 10 (map call_bytes calls)
unfolding all_of
codes_sized [] = refl
codes_sized (c ∷ calls) = cons_all (is_sized 10) (call_bytes c) (map call_bytes calls) (eq-eqb (length (call_bytes c)) 10 (call_length c)) (codes_sized calls)

codes_bytes : (calls : List Call) → all_of fits calls ≡ true → AllBytes (map call_bytes calls)
unfolding all_of
codes_bytes [] h = refl
codes_bytes (c ∷ calls) h =
    let (one, more) = all_cons fits c calls h in
    cons_all (all_of is_byte) (call_bytes c) (map call_bytes calls) (call_bytes_lem c (fits_facts c one)) (codes_bytes calls more)

-- a test of their codes that fails for each call that fits
no_code : (f : List ℕ → Bool) → ((c : Call) → Fits c → f (call_bytes c) ≡ false) → (calls : List Call) → all_of fits calls ≡ true → any_of f (map call_bytes calls) ≡ false
unfolding any_of
no_code f fails [] h = refl
no_code f fails (c ∷ calls) h = let (one, more) = all_cons fits c calls h in ap₂ ◌||◌ (fails c (fits_facts c one)) (no_code f fails calls more)

-- the conditions of a call block, asked of tests that pass
passes : (a : Bool) (b c d e f : Bool) (g : Bool) (x y : Bool) → a ≡ true → b ≡ false → c ≡ false → d ≡ false → e ≡ false → f ≡ false → g ≡ true → x ≡ false → y ≡ false
    → first ((25, not a) ∷ (26, b) ∷ (26, c) ∷ (26, d) ∷ (26, e) ∷ (26, f) ∷ (26, not g) ∷ (26, x) ∷ (26, y) ∷ []) ≡ 0
unfolding first
passes a b c d e f g x y pa pb pc pd pe pf pg px py = rw (pa, pb, pc, pd, pe, pf, pg, px, py)

-- A call block that is written.
module _ (calls : List Call) (fit : all_of fits calls ≡ true) (some : 1 ≤ length calls) (few : length calls ≤ 50) where
  abbrev block : List ℕ
  block = call_block calls

  abbrev codes : List (List ℕ)
  codes = map call_bytes calls

  abbrev n : ℕ
  n = length calls

  codes-length : length codes ≡ n
  codes-length = length-map calls call_bytes

  codes-joined : flat call_bytes calls ≡ joined codes
  codes-joined = sym (flat_map (λ code. code) call_bytes calls)

  long : length (joined codes) ≡ 10 * n
  long = joined_length 10 codes (codes_sized calls) ∙ ap (λ (k : ℕ). 10 * k) codes-length

  body_bytes : Bytes (n ∷ flat call_bytes calls)
  body_bytes = cons_all is_byte n (flat call_bytes calls) (lt-ltb n 256 (omega arith)) (ap (all_of is_byte) codes-joined ∙ joined_bytes codes (codes_bytes calls fit))

  abbrev behind : List ℕ
  behind = replicate (507 - 10 * n) 0

  whole : content block ≡ n ∷ (joined codes ++ behind)
  unfolding call_block
  whole =
      let left : 508 - length (n ∷ joined codes) ≡ 507 - 10 * n = omega (arith, long) in
      sealed-content (n ∷ flat call_bytes calls)
      ∙ ap (λ (l : List ℕ). padded 508 (n ∷ l)) codes-joined
      ∙ padded-split 508 (n ∷ joined codes) (omega (arith, long))
      ∙ ap (λ (k : ℕ). n ∷ (joined codes ++ replicate k 0)) left

  pub many_are : many_in block ≡ n
  many_are = sym (get_or-take 508 block 0 0 (omega arith)) ∙ ap (λ (l : List ℕ). get_or l 0 0) whole

  past-number : drop 1 block ≡ joined codes ++ (behind ++ drop 508 block)
  past-number =
      ap (drop 1) (sym (take-append-drop 508 block) ∙ ap (λ (l : List ℕ). l ++ drop 508 block) whole)
      ∙ append_assoc (joined codes) behind (drop 508 block)

  pub codes_are : codes_in block ≡ codes
  unfolding codes_in
  codes_are =
      ap₂ (pieces 10) (many_are ∙ sym codes-length) past-number ∙ pieces-joined 10 codes (behind ++ drop 508 block) (codes_sized calls)

  pub calls_bytes : Bytes block
  unfolding call_block
  calls_bytes = sealed_bytes (n ∷ flat call_bytes calls) body_bytes

  checked : checks block ≡ true
  unfolding call_block
  checked = sealed-checks (n ∷ flat call_bytes calls) body_bytes

  -- loads among their codes are loads among the calls
  loads-before : (k : ℕ) → any_of is_load_code (take k codes) ≡ any_of is_load_call (take k calls)
  unfolding call_bytes
  loads-before k = ap (any_of is_load_code) (sym (map-take call_bytes k calls)) ∙ any_map is_load_code call_bytes (take k calls)

  loads-from : (k : ℕ) → any_of is_load_code (drop k codes) ≡ any_of is_load_call (drop k calls)
  unfolding call_bytes
  loads-from k = ap (any_of is_load_code) (sym (map-drop call_bytes k calls)) ∙ any_map is_load_code call_bytes (drop k calls)

  pub ends_are : ends_in_load block ≡ any_of is_load_call (drop (n - 1) calls)
  ends_are = ap₂ (λ (k : ℕ) (all : List (List ℕ)). any_of is_load_code (drop (k - 1) all)) many_are codes_are ∙ loads-from (n - 1)

  few-tested : eqb (many_in block) 0 || ltb most (many_in block) ≡ false
  few-tested = ap (λ (k : ℕ). eqb k 0 || ltb most k) many_are ∙ ap₂ ◌||◌ (ne_eqb n 0 (λ none. omega arith)) (le-ltb most n few)

  none_in : (f : List ℕ → Bool) → ((c : Call) → Fits c → f (call_bytes c) ≡ false) → any_of f (codes_in block) ≡ false
  none_in f fails = ap (any_of f) codes_are ∙ no_code f fails calls fit

  behind-zeros : zeros (drop (1 + 10 * many_in block) (content block)) ≡ true
  behind-zeros =
      ap zeros
      (ap₂ (λ (k : ℕ) (l : List ℕ). drop (1 + 10 * k) l) many_are whole
      ∙ drop_at (n ∷ joined codes) behind (1 + 10 * n) (omega (arith, long)))
      ∙ zeros-replicate (507 - 10 * n)

  pub calls-accepted : (last : Bool) → any_of is_load_call (take (n - 1) calls) ≡ false
      → not last && ltb n most && not (any_of is_load_call (drop (n - 1) calls)) ≡ false → last && any_of is_load_call (drop (n - 1) calls) ≡ false
      → first (call_conditions last block) ≡ 0
  unfolding call_conditions
  calls-accepted last early full end =
      passes (checks block) (eqb (many_in block) 0 || ltb most (many_in block)) (any_of wrong_kind (codes_in block)) (any_of stray_seat (codes_in block)) (any_of stray_amount (codes_in block))
      (any_of is_load_code (take (many_in block - 1) (codes_in block))) (zeros (drop (1 + 10 * many_in block) (content block))) (not last && ltb (many_in block) most && not (ends_in_load block)) (last && ends_in_load block)
      checked
      few-tested
      (none_in wrong_kind right_kind)
      (none_in stray_seat no_stray_seat)
      (none_in stray_amount no_stray_amount)
      (ap₂ (λ (k : ℕ) (all : List (List ℕ)). any_of is_load_code (take (k - 1) all)) many_are codes_are ∙ loads-before (n - 1) ∙ early)
      behind-zeros
      (ap₂ (λ (k : ℕ) (ends : Bool). not last && ltb k most && not ends) many_are ends_are ∙ full)
      (ap (λ (ends : Bool). last && ends) ends_are ∙ end)

pub calls-length : (calls : List Call) → length (call_block calls) ≡ 512
unfolding call_block
calls-length calls = sealed-length (length calls ∷ flat call_bytes calls)

-- A block that passes the conditions of a call block.
module _ (last : Bool) (block : List ℕ) (bytes : Bytes block) (len : length block ≡ 512) (passed : first (call_conditions last block) ≡ 0) where
  tests : NoneHold (call_conditions last block)
  unfolding call_conditions all_of
  tests = none_hold (call_conditions last block) refl passed

  abbrev many : ℕ
  many = many_in block

  pub read_many : (1 ≤ many) × (many ≤ 50)
  unfolding call_conditions
  read_many =
      let (some, few) = or_eq_false (eqb many 0) (ltb most many) tests.1.0 in
      let not_None = eqb-false many 0 some in
      (omega arith, ltb-false most many few)

  -- the loads of the block: none before the last call, and the last only where the block may end so
  pub no_early : any_of is_load_code (take (many - 1) (codes_in block)) ≡ false
  unfolding call_conditions
  no_early = tests.1.1.1.1.1.0

  pub read_full : not last && ltb many most && not (ends_in_load block) ≡ false
  unfolding call_conditions
  read_full = tests.1.1.1.1.1.1.1.0

  pub read_end : last && ends_in_load block ≡ false
  unfolding call_conditions
  read_end = tests.1.1.1.1.1.1.1.1.0

  pub codes_many : length (codes_in block) ≡ many
  unfolding codes_in
  codes_many = pieces-length 10 many (drop 1 block)

  codes-sized-in : Sized 10 (codes_in block)
  unfolding codes_in
  codes-sized-in = pieces_sized 10 many (drop 1 block) (omega (arith, length-drop 1 block, read_many.1))

  codes-bytes-in : AllBytes (codes_in block)
  unfolding codes_in
  codes-bytes-in = pieces_bytes 10 many (drop 1 block) (all_rest is_byte 1 block bytes)

  joined-long : length (joined (codes_in block)) ≡ 10 * many
  joined-long = joined_length 10 (codes_in block) codes-sized-in ∙ ap (λ (k : ℕ). 10 * k) codes_many

  pub codes_pass : (i : ℕ) → i < many → Passes (get_or (codes_in block) i [])
  unfolding call_conditions
  codes_pass i h =
      let inside : i < length (codes_in block) = omega (arith, h, codes_many) in
      let (some, known) = or_eq_false (eqb (code_kind code) 0) (ltb 21 (code_kind code)) (any_not_at wrong_kind (codes_in block) i [] inside tests.1.1.0) in
      let not_None = eqb-false (code_kind code) 0 some in
      record {
        bytes = all-at (all_of is_byte) (codes_in block) i [] codes-bytes-in inside;
        long = eqb-true (length code) 10 (all-at (is_sized 10) (codes_in block) i [] codes-sized-in inside);
        least = omega arith;
        most = ltb-false 21 (code_kind code) known;
        no_seat = λ none. stray (has_seat (code_kind code)) (code_seat code) none (any_not_at stray_seat (codes_in block) i [] inside tests.1.1.1.0);
        no_amount = λ none. stray (has_amount (code_kind code)) (code_amount code) none (any_not_at stray_amount (codes_in block) i [] inside tests.1.1.1.1.0);
      }
    where
      code : List ℕ
      code = get_or (codes_in block) i []

  -- its content: the number, the codes, zeros
  parts : content block ≡ many ∷ (joined (codes_in block) ++ replicate (507 - 10 * many) 0)
  unfolding call_conditions codes_in
  parts =
      let c : List ℕ = content block in
      let all : length c ≡ 508 = length-take-le 508 block (omega arith) in
      let few : many ≤ 50 = read_many.1 in
      let rest-long : length (drop (1 + 10 * many) c) ≡ 507 - 10 * many = length-drop (1 + 10 * many) c ∙ omega (arith, all) in
      let rest : drop (1 + 10 * many) c ≡ replicate (507 - 10 * many) 0 =
      zeros_are (drop (1 + 10 * many) c) (not-false (zeros (drop (1 + 10 * many) c)) tests.1.1.1.1.1.1.0) ∙ ap (λ (m : ℕ). replicate m 0) rest-long in
      drop-cons c 0 0 (omega arith)
      ∙ ap₂ ◌∷◌ (get_or-take 508 block 0 0 (omega arith))
      (sym (take-append-drop (10 * many) (drop 1 c))
      ∙ ap₂ ◌++◌ (part_of_take (10 * many) 1 508 block (omega arith) ∙ sym (joined-pieces 10 many (drop 1 block))) (drop-drop (10 * many) 1 c ∙ rest))

  pub read_calls : block ≡ call_block (map code_call (codes_in block))
  unfolding call_conditions call_block
  read_calls =
      let written : flat call_bytes (map code_call (codes_in block)) ≡ joined (codes_in block) =
      flat_map call_bytes code_call (codes_in block)
      ∙ flat-same (λ code. call_bytes (code_call code)) (λ code. code) (codes_in block) [] (λ i h. code_write (get_or (codes_in block) i []) (codes_pass i (omega (arith, h, codes_many)))) in
      let counted : length (map code_call (codes_in block)) ≡ many = length-map (codes_in block) code_call ∙ codes_many in
      let few : many ≤ 50 = read_many.1 in
      let left : 508 - length (many ∷ joined (codes_in block)) ≡ 507 - 10 * many = omega (arith, joined-long) in
      checked_sealed block bytes len (not-false (checks block) tests.0)
      ∙ sealed-same (content block) (many ∷ joined (codes_in block))
      (padded-whole (content block) 508 (length-take-le 508 block (omega arith))
      ∙ parts
      ∙ sym (padded-split 508 (many ∷ joined (codes_in block)) (omega (arith, joined-long)) ∙ ap (λ (k : ℕ). many ∷ (joined (codes_in block) ++ replicate k 0)) left))
      ∙ ap₂ (λ (k : ℕ) (l : List ℕ). sealed (k ∷ l)) (sym counted) (sym written)
