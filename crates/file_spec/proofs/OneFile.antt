-- A file of number 0 is the file of what it hands out. Block by block from the front: a call block's calls, told to the writer's definition one after the other, fill one block and complete it where
-- the block ends, by a load, as the fiftieth, or as the file's last.
use mathlib.Core.Path.{◌≡◌, refl, sym, ◌∙◌, ap, ap₂, subst}
use mathlib.Core.Bool.{Bool, true, false, cond, not, ◌&&◌, ◌||◌, and-true, true≢false}
use mathlib.Core.List.{List, [], ◌∷◌, ◌++◌, map, append_assoc, append-nil}
use Prim.Native.Nat.{ℕ, suc, ◌+◌, ◌-◌, ◌/◌, ◌%◌, ◌≤◌, ◌<◌}
use native.Mathlib.Decide.{dec_le}
use native.Mathlib.Omega.{arith}
use lib.Dec.{ltb, eqb}
use lib.ListN.{length, take, drop, get_or, length-map, take-append-drop}
use lib.Seq.{drop-cons, length-take-le, drop-length, get_or-take}
use borrow.Author.Tests.{eqb-true, eqb-false, eq-eqb, ne_eqb, ltb-false, not-true, not-false}
use Rattle.lists.specs.Tests.{all_of, any_of}
use Rattle.lists.specs.Flat.{flat}
use Rattle.lists.proofs.Tests.{or_eq_false, any_one}
use Rattle.call.specs.declared.Call.{Call}
use Rattle.call.specs.Refusal.{first}
use Rattle.call.proofs.Refusals.{first-behind, accepted-head}
use Rattle.options.specs.declared.Options.{Options}
use Rattle.history.specs.Entry.{Entry, is_load}
use Rattle.cashier_spec.specs.Opening.{open_conditions, open_number}
use Rattle.file_spec.specs.Block.{is_byte, Bytes, pieces}
use Rattle.file_spec.specs.TableBlock.{table_block, options_in, order_in, table_conditions, loaded_conditions, same_options}
use Rattle.file_spec.specs.CallBlock.{most, call_block, codes_in, code_call, many_in, is_load_code, ends_in_load, call_conditions}
use Rattle.file_spec.specs.File.{blocks_behind, file_of}
use Rattle.file_spec.specs.Number.{or_else, is_end, number_behind, blocks_number, file_blocks, file_number}
use Rattle.file_spec.specs.Handed.{code_entry, next_order, calls_behind, behind_first, file_options, file_order, file_calls}
use Rattle.file_spec.proofs.Alls.{all_cons, cons_all, all-part}
use Rattle.file_spec.proofs.Pieces.{is_sized, Sized, AllBytes, joined, pieces_sized, pieces_bytes}
use Rattle.file_spec.proofs.TableBlocks.{loaded_table, read_range, read_valid, read_table, options_same}
use Rattle.file_spec.proofs.CallBlocks.{is_load_call, read_many, no_early, read_full, read_end, codes_many, codes_pass, read_calls}
use Rattle.file_spec.proofs.Codes.{Passes, code_kind_lem}
use Rattle.file_spec.proofs.WholeFiles.{joined_blocks}
use Rattle.file_spec.proofs.Files.{no_load, plain, now, now-length}

-- calls without a load fill the open block
module _ (o : Options) where
  fills : (calls more : List Call) (es : List Entry) → no_load more → length calls + length more < 50 → blocks_behind o calls (map plain more ++ es) ≡ blocks_behind o (calls ++ more) es
  unfolding blocks_behind
  fills calls [] es none room = ap (λ (l : List Call). blocks_behind o l es) (sym (append-nil calls))
  fills calls (c ∷ more) es none room =
      let (one, others) = all_cons (λ x. not (is_load_call x)) c more none in
      rw (not-true (is_load_call c) one, ne_eqb (length (now calls c)) most (λ fifty. omega (arith, fifty, now-length calls c)))
      (fills (now calls c) more es others (omega (arith, now-length calls c))
      ∙ ap (λ (l : List Call). blocks_behind o l es) (append_assoc calls (c ∷ []) more))

  -- the fiftieth completes it, and so does a load
  completes : (calls : List Call) (c : Call) (es : List Entry) → is_load_call c ≡ false → length calls ≡ 49 → blocks_behind o calls (plain c ∷ es) ≡ call_block (now calls c) ∷ blocks_behind o [] es
  unfolding blocks_behind
  completes calls c es one full = rw (one, eq-eqb (length (now calls c)) most (omega (arith, now-length calls c)))

  loads : (calls : List Call) (e : Entry) (es : List Entry) → is_load e ≡ true → blocks_behind o calls (e ∷ es) ≡ call_block (now calls e.call) ∷ table_block o e.order ∷ blocks_behind o [] es
  unfolding blocks_behind
  loads calls e es l = rw l

  -- a block that is the file's last
  rests : (calls : List Call) → 1 ≤ length calls → blocks_behind o calls [] ≡ call_block calls ∷ []
  unfolding blocks_behind
  rests [] some = absurd (omega arith)
  rests (c ∷ calls) some = refl

-- codes that name no load: their calls are no loads, and nothing is lent to them
no_load_codes : (codes : List (List ℕ)) → ((i : ℕ) → i < length codes → Passes (get_or codes i [])) → any_of is_load_code codes ≡ false → no_load (map code_call codes)
unfolding any_of all_of
no_load_codes [] pass none = refl
no_load_codes (code ∷ codes) pass none =
    let (one, more) = or_eq_false (is_load_code code) (any_of is_load_code codes) none in
    cons_all (λ c. not (is_load_call c)) (code_call code) (map code_call codes)
    (ap (λ (k : ℕ). not (eqb k 17)) (code_kind_lem code (pass 0 (omega arith))) ∙ ap not one)
    (no_load_codes codes (λ i h. pass (suc i) (omega arith)) more)

plain_codes : (order : List ℕ) (codes : List (List ℕ)) → any_of is_load_code codes ≡ false → map (code_entry order) codes ≡ map plain (map code_call codes)
unfolding any_of
plain_codes order [] none = refl
plain_codes order (code ∷ codes) none =
    let (one, more) = or_eq_false (is_load_code code) (any_of is_load_code codes) none in
    ap₂ ◌∷◌ (ap (λ (load : Bool). record { call = code_call code; order = cond load order [] }) one) (plain_codes order codes more)

map_snoc : {A B : Type 0} (f : A → B) (xs : List A) (x : A) → map f (xs ++ x ∷ []) ≡ map f xs ++ f x ∷ []
map_snoc f [] x = refl
map_snoc {B = B} f (y ∷ xs) x = ap (λ (l : List B). f y ∷ l) (map_snoc f xs x)

one-no_load : (c : Call) → is_load_call c ≡ false → no_load (c ∷ [])
unfolding all_of
one-no_load c e = cons_all (λ x. not (is_load_call x)) c [] (ap not e) refl

-- A call block that passes: its calls before the last, and the last.
module _ (last : Bool) (block : List ℕ) (bytes : Bytes block) (len : length block ≡ 512) (passed : first (call_conditions last block) ≡ 0) where
  abbrev codes : List (List ℕ)
  codes = codes_in block

  abbrev n : ℕ
  n = many_in block

  abbrev init : List Call
  init = map code_call (take (n - 1) codes)

  abbrev pub end : List ℕ
  end = get_or codes (n - 1) []

  some : 1 ≤ n
  some = (read_many last block bytes len passed).0

  many : length codes ≡ n
  many = codes_many last block bytes len passed

  from_end : drop (n - 1) codes ≡ end ∷ []
  from_end =
      let all : suc (n - 1) ≡ length codes = omega (arith, some, many) in
      drop-cons codes (n - 1) [] (omega (arith, some, many)) ∙ ap (λ (k : ℕ). end ∷ drop k codes) all ∙ ap (λ (l : List (List ℕ)). end ∷ l) (drop-length codes)

  split : codes ≡ take (n - 1) codes ++ end ∷ []
  split = sym (take-append-drop (n - 1) codes) ∙ ap (λ (l : List (List ℕ)). take (n - 1) codes ++ l) from_end

  pass : (i : ℕ) → i < length codes → Passes (get_or codes i [])
  pass i h = codes_pass last block bytes len passed i (omega (arith, h, many))

  init-length : length init ≡ n - 1
  init-length = length-map (take (n - 1) codes) code_call ∙ length-take-le (n - 1) codes (omega (arith, some, many))

  init-no-load : no_load init
  init-no-load =
      no_load_codes (take (n - 1) codes)
      (λ i h.
      let near : i < n - 1 = omega (arith, h, length-take-le (n - 1) codes (omega (arith, some, many))) in
      subst Passes (sym (get_or-take (n - 1) codes i [] near)) (pass i (omega (arith, near, some, many))))
      (no_early last block bytes len passed)

  pub end_code : is_load_code end ≡ ends_in_load block
  end_code = sym (any_one is_load_code end) ∙ ap (any_of is_load_code) (sym from_end)

  end-load : is_load_call (code_call end) ≡ ends_in_load block
  end-load =
      ap (λ (k : ℕ). eqb k 17) (code_kind_lem end (pass (n - 1) (omega (arith, some, many)))) ∙ end_code

  -- the block, and what it hands out
  is_block : block ≡ call_block (now init (code_call end))
  is_block = read_calls last block bytes len passed ∙ ap call_block (ap (map code_call) split ∙ map_snoc code_call (take (n - 1) codes) end)

  entries : (order : List ℕ) → map (code_entry order) codes ≡ map plain init ++ code_entry order end ∷ []
  entries order =
      ap (map (code_entry order)) split
      ∙ map_snoc (code_entry order) (take (n - 1) codes) end
      ∙ ap (λ (es : List Entry). es ++ code_entry order end ∷ []) (plain_codes order (take (n - 1) codes) (no_early last block bytes len passed))

-- two numbers, of which the second counts where the first is 0
pub both_zero : (a b : ℕ) → or_else a b ≡ 0 → (a ≡ 0) × (b ≡ 0)
both_zero a b h = go (eqb a 0) refl h
  where
    go : (t : Bool) → eqb a 0 ≡ t → cond t b a ≡ 0 → (a ≡ 0) × (b ≡ 0)
    go true e z = (eqb-true a 0 e, z)
    go false e z = absurd (eqb-false a 0 e z)

-- The blocks behind the first.
module _ (start : List ℕ) (start-len : length start ≡ 512) where
  abbrev o : Options
  o = options_in start

  -- what is claimed of them, also where a table block comes first
  abbrev Same : Bool → List (List ℕ) → Type 0
  Same false blocks = blocks ≡ blocks_behind o [] (calls_behind false blocks)
  Same true [] = Unit {0}
  Same true (table ∷ blocks) = (table ≡ table_block o (order_in table)) × (blocks ≡ blocks_behind o [] (calls_behind false blocks))

  -- a table block behind a load
  same_table : (block : List ℕ) → Bytes block → length block ≡ 512 → first (loaded_conditions start block) ≡ 0 → block ≡ table_block o (order_in block)
  unfolding loaded_conditions table_conditions all_of
  same_table block bytes len passed =
      let table : first (table_conditions block) ≡ 0 = loaded_table start block passed in
      let rest : first ((26, not (same_options start block)) ∷ []) ≡ 0 = sym (first-behind (table_conditions block) ((26, not (same_options start block)) ∷ []) refl table) ∙ passed in
      let same : same_options start block ≡ true = not-false (same_options start block) (accepted-head 26 (not (same_options start block)) [] (omega arith) rest) in
      read_table block bytes len table ∙ ap (λ (p : Options). table_block p (order_in block)) (options_same start block start-len len same)

  -- a call block in front of such blocks
  module _ (block : List ℕ) (blocks : List (List ℕ)) (bytes : Bytes block) (len : length block ≡ 512) (passed : first (call_conditions (is_end blocks) block) ≡ 0) where
    abbrev calls : List Call
    calls = init (is_end blocks) block bytes len passed

    abbrev last_code : List ℕ
    last_code = end (is_end blocks) block bytes len passed

    -- its calls before the last fill the open block
    up-to-last : (order : List ℕ) (es : List Entry) → blocks_behind o [] (map (code_entry order) (codes_in block) ++ es) ≡ blocks_behind o calls (code_entry order last_code ∷ es)
    up-to-last order es =
        ap (λ (xs : List Entry). blocks_behind o [] (xs ++ es)) (entries (is_end blocks) block bytes len passed order)
        ∙ ap (blocks_behind o []) (append_assoc (map plain calls) (code_entry order last_code ∷ []) es)
        ∙ fills o [] calls (code_entry order last_code ∷ es) (init-no-load (is_end blocks) block bytes len passed)
        (omega (arith, init-length (is_end blocks) block bytes len passed, read_many (is_end blocks) block bytes len passed))

    -- its last call is no load
    end-plain : (order : List ℕ) → ends_in_load block ≡ false → code_entry order last_code ≡ plain (code_call last_code)
    end-plain order e = ap (λ (load : Bool). record { call = code_call last_code; order = cond load order [] }) (end_code (is_end blocks) block bytes len passed ∙ e)

    no-load-end : ends_in_load block ≡ false → is_load_call (code_call last_code) ≡ false
    no-load-end e = end-load (is_end blocks) block bytes len passed ∙ e

    this : block ≡ call_block (now calls (code_call last_code))
    this = is_block (is_end blocks) block bytes len passed

    counted : length calls ≡ many_in block - 1
    counted = init-length (is_end blocks) block bytes len passed

    -- it is full
    joins-full : ends_in_load block ≡ false → 50 ≤ many_in block → blocks ≡ blocks_behind o [] (calls_behind false blocks)
        → block ∷ blocks ≡ blocks_behind o [] (map (code_entry (next_order blocks)) (codes_in block) ++ calls_behind false blocks)
    joins-full e full rest =
        ap₂ ◌∷◌ this rest
        ∙ sym (up-to-last (next_order blocks) (calls_behind false blocks)
        ∙ ap (λ (x : Entry). blocks_behind o calls (x ∷ calls_behind false blocks)) (end-plain (next_order blocks) e)
        ∙ completes o calls (code_call last_code) (calls_behind false blocks) (no-load-end e) (omega (arith, counted, full, read_many (is_end blocks) block bytes len passed)))

    -- it is neither full nor ends in a load, and so the last
    joins-last : ends_in_load block ≡ false → many_in block < 50 → blocks_behind o [] (map (code_entry []) (codes_in block) ++ []) ≡ block ∷ []
    joins-last e few =
        up-to-last [] []
        ∙ ap (λ (x : Entry). blocks_behind o calls (x ∷ [])) (end-plain [] e)
        ∙ fills o calls (code_call last_code ∷ []) [] (one-no_load (code_call last_code) (no-load-end e)) (omega (arith, counted, few, read_many (is_end blocks) block bytes len passed))
        ∙ rests o (now calls (code_call last_code)) (omega (arith, now-length calls (code_call last_code)))
        ∙ ap (λ (b : List ℕ). b ∷ []) (sym this)

  -- it ends in a load, and a table block follows
  joins-load : (block table : List ℕ) (blocks : List (List ℕ)) (bytes : Bytes block) (len : length block ≡ 512) (passed : first (call_conditions (is_end (table ∷ blocks)) block) ≡ 0) → ends_in_load block ≡ true
      → table ≡ table_block o (order_in table) → blocks ≡ blocks_behind o [] (calls_behind false blocks)
      → block ∷ table ∷ blocks ≡ blocks_behind o [] (map (code_entry (order_in table)) (codes_in block) ++ calls_behind false blocks)
  joins-load block table blocks bytes len passed e one rest =
      let c : List Call = calls block (table ∷ blocks) bytes len passed in
      let code : List ℕ = last_code block (table ∷ blocks) bytes len passed in
      let load : is_load_code code ≡ true = end_code (is_end (table ∷ blocks)) block bytes len passed ∙ e in
      ap₂ ◌∷◌ (this block (table ∷ blocks) bytes len passed) (ap₂ ◌∷◌ one rest)
      ∙ sym (up-to-last block (table ∷ blocks) bytes len passed (order_in table) (calls_behind false blocks)
      ∙ loads o c (code_entry (order_in table) code) (calls_behind false blocks) (end-load (is_end (table ∷ blocks)) block bytes len passed ∙ e)
      ∙ ap (λ (b : Bool). call_block (now c (code_call code)) ∷ table_block o (cond b (order_in table) []) ∷ blocks_behind o [] (calls_behind false blocks)) load)

  joins : (block : List ℕ) (blocks : List (List ℕ)) (bytes : Bytes block) (len : length block ≡ 512) (passed : first (call_conditions (is_end blocks) block) ≡ 0) (ends : Bool) → ends_in_load block ≡ ends
      → Same ends blocks → block ∷ blocks ≡ blocks_behind o [] (map (code_entry (next_order blocks)) (codes_in block) ++ calls_behind ends blocks)
  unfolding is_end next_order calls_behind
  joins block [] bytes len passed true e rest = absurd (true≢false (sym e ∙ read_end true block bytes len passed))
  joins block (table ∷ blocks) bytes len passed true e rest = joins-load block table blocks bytes len passed e rest.0 rest.1
  joins block [] bytes len passed false e rest = go (dec_le 50 (many_in block))
    where
      go : Dec (50 ≤ many_in block) → block ∷ [] ≡ blocks_behind o [] (map (code_entry []) (codes_in block) ++ [])
      go (yes full) = joins-full block [] bytes len passed e full rest
      go (no few) = sym (joins-last block [] bytes len passed e (omega arith))
  joins block (next ∷ blocks) bytes len passed false e rest =
      joins-full block (next ∷ blocks) bytes len passed e
      (ltb-false (many_in block) most (sym (ap (λ (b : Bool). ltb (many_in block) most && not b) e ∙ and-true (ltb (many_in block) most)) ∙ read_full false block bytes len passed))
      rest

  pub same_blocks : (loaded : Bool) (blocks : List (List ℕ)) → Sized 512 blocks → AllBytes blocks → number_behind start loaded blocks ≡ 0 → Same loaded blocks
  unfolding number_behind blocks_behind calls_behind
  same_blocks false [] sized bytes h = refl
  same_blocks true [] sized bytes h = tt
  same_blocks true (table ∷ blocks) sized bytes h =
      let (one-sized, more-sized) = all_cons (is_sized 512) table blocks sized in
      let (one-bytes, more_bytes) = all_cons (all_of is_byte) table blocks bytes in
      let (passed, rest) = both_zero (first (loaded_conditions start table)) (number_behind start false blocks) h in
      (same_table table one-bytes (eqb-true (length table) 512 one-sized) passed, same_blocks false blocks more-sized more_bytes rest)
  same_blocks false (block ∷ blocks) sized bytes h =
      let (one-sized, more-sized) = all_cons (is_sized 512) block blocks sized in
      let (one-bytes, more_bytes) = all_cons (all_of is_byte) block blocks bytes in
      let (passed, rest) = both_zero (first (call_conditions (is_end blocks) block)) (number_behind start (ends_in_load block) blocks) h in
      joins block blocks one-bytes (eqb-true (length block) 512 one-sized) passed (ends_in_load block) refl (same_blocks (ends_in_load block) blocks more-sized more_bytes rest)

-- A file of number 0: some blocks and no byte behind them, the first of them a table block.
module _ (file : List ℕ) (zero_number : file_number file ≡ 0) where
  measured : (eqb (length file) 0 ≡ false) × (eqb (length file % 512) 0 ≡ true) × (blocks_number (file_blocks file) ≡ 0)
  unfolding file_number
  measured = go (eqb (length file) 0) (eqb (length file % 512) 0) refl refl zero_number
    where
      go : (none whole : Bool) → eqb (length file) 0 ≡ none → eqb (length file % 512) 0 ≡ whole → cond (none || not whole) 24 (blocks_number (file_blocks file)) ≡ 0
          → (none ≡ false) × (whole ≡ true) × (blocks_number (file_blocks file) ≡ 0)
      go true whole a b h = absurd (omega arith)
      go false true a b h = (refl, refl, h)
      go false false a b h = absurd (omega arith)

  pub some_bytes : 0 < length file
  some_bytes = let none = eqb-false (length file) 0 measured.0 in omega arith

  pub whole_blocks : length file % 512 ≡ 0
  whole_blocks = eqb-true (length file % 512) 0 measured.1

  pub number_of_blocks : blocks_number (file_blocks file) ≡ 0
  number_of_blocks = measured.2

  pub blocks_sized : Sized 512 (file_blocks file)
  blocks_sized = pieces_sized 512 (length file / 512) file (omega (arith, whole_blocks))

  abbrev others : List (List ℕ)
  others = behind_first (file_blocks file)

  pub first_and_others : file_blocks file ≡ take 512 file ∷ others
  unfolding pieces behind_first
  first_and_others =
      let some : length file / 512 ≡ suc (length file / 512 - 1) = omega (arith, some_bytes, whole_blocks) in
      ap (λ (m : ℕ). pieces 512 m file) some ∙ ap (λ (m : ℕ). take 512 file ∷ behind_first (pieces 512 m file)) (sym some)

  pub number_behind_lem : (first (table_conditions (take 512 file)) ≡ 0) × (number_behind (take 512 file) false others ≡ 0)
  unfolding blocks_number
  number_behind_lem =
      both_zero (first (table_conditions (take 512 file))) (number_behind (take 512 file) false others) (sym (ap blocks_number first_and_others) ∙ number_of_blocks)

  pub start-length : length (take 512 file) ≡ 512
  start-length = length-take-le 512 file (omega (arith, some_bytes, whole_blocks))

  module _ (bytes : Bytes file) where
    start-table : take 512 file ≡ table_block (file_options file) (file_order file)
    start-table = read_table (take 512 file) (all-part is_byte 512 file bytes) start-length number_behind_lem.0

    others-sized : (Sized 512 others) × (AllBytes others)
    others-sized = (
      (all_cons (is_sized 512) (take 512 file) others (ap (all_of (is_sized 512)) (sym first_and_others) ∙ blocks_sized)).1,
      (all_cons (all_of is_byte) (take 512 file) others (ap (all_of (all_of is_byte)) (sym first_and_others) ∙ pieces_bytes 512 (length file / 512) file bytes)).1,
    )

    pub one_file : file ≡ file_of (file_options file) (file_order file) (file_calls file)
    unfolding file_of file_calls flat
    one_file =
        sym (joined_blocks file whole_blocks)
        ∙ ap joined first_and_others
        ∙ ap₂ (λ (start : List ℕ) (all : List (List ℕ)). joined (start ∷ all)) start-table (same_blocks (take 512 file) start-length false others others-sized.0 others-sized.1 number_behind_lem.1)

    pub opens_as_read : open_number (file_options file) (file_order file) ≡ 0
    unfolding open_number open_conditions first
    opens_as_read =
        rw (read_range (take 512 file) (all-part is_byte 512 file bytes) start-length number_behind_lem.0, read_valid (take 512 file) (all-part is_byte 512 file bytes) start-length number_behind_lem.0)
