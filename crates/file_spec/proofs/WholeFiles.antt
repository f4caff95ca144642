-- A file and its blocks: a file of blocks is taken apart into these, so that what was said of the blocks of a written session holds of its file.
use mathlib.Core.Path.{◌≡◌, refl, sym, ◌∙◌, ap, ap₂}
use mathlib.Core.Bool.{Bool, true, false, cond}
use mathlib.Core.List.{List, [], ◌∷◌, map, append-nil}
use Prim.Native.Nat.{ℕ, ◌*◌, ◌/◌, ◌%◌, ◌≤◌, ◌<◌}
use native.Mathlib.Omega.{arith}
use lib.Dec.{eqb}
use lib.ListN.{length, take}
use lib.Seq.{take_at, take_all}
use borrow.Author.Tests.{eqb-false, eq-eqb, ne_eqb}
use Rattle.lists.specs.Tests.{all_of}
use Rattle.lists.specs.Flat.{flat}
use Rattle.call.specs.declared.Call.{Call}
use Rattle.options.specs.declared.Options.{Options}
use Rattle.options.specs.Ranges.{in_range}
use Rattle.table.specs.Shoe.{valid_order}
use Rattle.history.specs.Entry.{Entry, is_load}
use Rattle.file_spec.specs.Block.{is_byte, Bytes, pieces}
use Rattle.file_spec.specs.TableBlock.{table_block, options_in, order_in}
use Rattle.file_spec.specs.CallBlock.{most, call_block}
use Rattle.file_spec.specs.File.{fits, writable, blocks_behind, session_blocks, file_of}
use Rattle.file_spec.specs.Number.{blocks_number, file_blocks, file_number}
use Rattle.file_spec.specs.Handed.{file_options, file_order, file_calls, calls_behind, behind_first}
use Rattle.file_spec.specs.Laws.{kept}
use Rattle.file_spec.proofs.Alls.{all_cons, cons_all}
use Rattle.file_spec.proofs.Pieces.{is_sized, Sized, joined, joined_length, joined_bytes, joined-pieces, pieces-joined}
use Rattle.file_spec.proofs.TableBlocks.{table_length, table_options, table_order_lem, table_bytes, table_accepted}
use Rattle.file_spec.proofs.CallBlocks.{calls-length, calls_bytes}
use Rattle.file_spec.proofs.Files.{now, now-length, now-fits, writable_facts, behind-accepted, handed_out}

-- a file of blocks, taken apart
pub blocks_of : (blocks : List (List ℕ)) → Sized 512 blocks → file_blocks (joined blocks) ≡ blocks
blocks_of blocks sized =
    let long : length (joined blocks) ≡ 512 * length blocks = joined_length 512 blocks sized in
    let many : length (joined blocks) / 512 ≡ length blocks = omega (arith, long) in
    ap₂ (pieces 512) many (sym (append-nil (joined blocks))) ∙ pieces-joined 512 blocks [] sized

-- and one whose length is a multiple of 512, put together again
pub joined_blocks : (file : List ℕ) → length file % 512 ≡ 0 → joined (file_blocks file) ≡ file
joined_blocks file even =
    let all : 512 * (length file / 512) ≡ length file = omega arith in
    joined-pieces 512 (length file / 512) file ∙ ap (λ (n : ℕ). take n file) all ∙ take_all (length file) file (omega arith)

-- what holds of every call block and of every table block that can be written holds of all blocks of a session
module _ (o : Options) (f : List ℕ → Bool) (of_calls : (calls : List Call) → all_of fits calls ≡ true → 1 ≤ length calls → length calls ≤ 50 → f (call_block calls) ≡ true)
    (of-table : (order : List ℕ) → valid_order o.decks order ≡ true → f (table_block o order) ≡ true) where
  one_more : (calls : List Call) (e : Entry) (es : List Entry) (load full : Bool) → is_load e ≡ load → eqb (length (now calls e.call)) most ≡ full
      → (is_load e ≡ true → valid_order o.decks e.order ≡ true) → f (call_block (now calls e.call)) ≡ true → all_of f (blocks_behind o [] es) ≡ true
      → (length (now calls e.call) < 50 → all_of f (blocks_behind o (now calls e.call) es) ≡ true) → length calls < 50
      → all_of f
      (cond load (call_block (now calls e.call) ∷ table_block o e.order ∷ blocks_behind o [] es)
      (cond full (call_block (now calls e.call) ∷ blocks_behind o [] es) (blocks_behind o (now calls e.call) es)))
      ≡ true
  one_more calls e es true full l g lent this rest more room =
      cons_all f (call_block (now calls e.call)) (table_block o e.order ∷ blocks_behind o [] es) this
      (cons_all f (table_block o e.order) (blocks_behind o [] es) (of-table e.order (lent l)) rest)
  one_more calls e es false true l g lent this rest more room = cons_all f (call_block (now calls e.call)) (blocks_behind o [] es) this rest
  one_more calls e es false false l g lent this rest more room =
      let other : length (now calls e.call) ≡ 50 → ⊥ = eqb-false (length (now calls e.call)) most g in
      more (omega (arith, now-length calls e.call, other))

  all-behind : (calls : List Call) (es : List Entry) → all_of fits calls ≡ true → length calls < 50 → all_of (writable o) es ≡ true → all_of f (blocks_behind o calls es) ≡ true
  unfolding blocks_behind all_of
  all-behind [] [] fit room ok = refl
  all-behind (c ∷ calls) [] fit room ok = cons_all f (call_block (c ∷ calls)) [] (of_calls (c ∷ calls) fit (omega arith) (omega arith)) refl
  all-behind calls (e ∷ es) fit room ok =
      let (one_ok, more-ok) = all_cons (writable o) e es ok in
      let (one-fits, lent) = writable_facts o e one_ok in
      let fit-now = now-fits calls e.call fit one-fits in
      one_more calls e es (is_load e) (eqb (length (now calls e.call)) most) refl refl lent
      (of_calls (now calls e.call) fit-now (omega (arith, now-length calls e.call)) (omega (arith, now-length calls e.call)))
      (all-behind [] es refl (omega arith) more-ok)
      (λ room-now. all-behind (now calls e.call) es fit-now room-now more-ok)
      room

  pub all_blocks : (order : List ℕ) (es : List Entry) → valid_order o.decks order ≡ true → all_of (writable o) es ≡ true → all_of f (session_blocks o order es) ≡ true
  unfolding all_of
  all_blocks order es valid ok = cons_all f (table_block o order) (blocks_behind o [] es) (of-table order valid) (all-behind [] es refl (omega arith) ok)

-- The file of a session.
module _ (o : Options) (order : List ℕ) (es : List Entry) (range : in_range o ≡ true) (valid : valid_order o.decks order ≡ true) (ok : all_of (writable o) es ≡ true) where
  abbrev blocks : List (List ℕ)
  blocks = session_blocks o order es

  sized : Sized 512 blocks
  sized =
      all_blocks o (is_sized 512) (λ calls fit some few. eq-eqb (length (call_block calls)) 512 (calls-length calls)) (λ cards good. eq-eqb (length (table_block o cards)) 512 (table_length o cards))
      order es valid ok

  pub file_bytes : Bytes (file_of o order es)
  unfolding file_of
  file_bytes = joined_bytes blocks (all_blocks o (all_of is_byte) calls_bytes (λ cards good. table_bytes o cards range good) order es valid ok)

  pub file_blocks_lem : file_blocks (file_of o order es) ≡ blocks
  unfolding file_of
  file_blocks_lem = blocks_of blocks sized

  pub blocks_number_lem : blocks_number blocks ≡ 0
  unfolding blocks_number all_of
  blocks_number_lem = rw (table_accepted o order range valid) (behind-accepted o order range valid [] es refl refl (omega arith) ok)

  pub file_number_lem : file_number (file_of o order es) ≡ 0
  unfolding file_number file_of
  file_number_lem =
      let long : length (joined blocks) ≡ 512 * length blocks = joined_length 512 blocks sized in
      let some : eqb (length (joined blocks)) 0 ≡ false = ne_eqb (length (joined blocks)) 0 (λ none. omega (arith, long)) in
      let whole : eqb (length (joined blocks) % 512) 0 ≡ true = eq-eqb (length (joined blocks) % 512) 0 (omega (arith, long)) in
      rw (some, whole) (ap blocks_number (blocks_of blocks sized) ∙ blocks_number_lem)

  -- its first block, and what it hands out
  first_block : take 512 (file_of o order es) ≡ table_block o order
  unfolding file_of flat
  first_block = take_at (table_block o order) (joined (blocks_behind o [] es)) 512 (table_length o order)

  pub file_options_lem : file_options (file_of o order es) ≡ o
  file_options_lem = ap options_in first_block ∙ table_options o order range valid

  pub file_order_lem : file_order (file_of o order es) ≡ order
  file_order_lem = ap order_in first_block ∙ table_order_lem o order range valid

  pub file_calls_lem : file_calls (file_of o order es) ≡ map kept es
  unfolding file_calls behind_first all_of
  file_calls_lem = ap (λ (all : List (List ℕ)). calls_behind false (behind_first all)) file_blocks_lem ∙ handed_out o range [] es refl refl (omega arith) ok
