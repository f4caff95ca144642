-- The file that is written: its blocks pass, one after the other, and hand out the calls again. The calls of the open block are carried along, as the writer carries them.
use mathlib.Core.Path.{◌≡◌, refl, ◌∙◌, ap, ap₂}
use mathlib.Core.Bool.{Bool, true, false, cond, not, ◌&&◌, ◌||◌, and-eq-true_iff, and-false}
use mathlib.Core.List.{List, [], ◌∷◌, ◌++◌, map, append_assoc}
use Prim.Native.Nat.{ℕ, ◌+◌, ◌-◌, ◌≤◌, ◌<◌}
use native.Mathlib.Omega.{arith}
use lib.Dec.{ltb, eqb}
use lib.ListN.{length, take, drop, length-append}
use lib.Seq.{take_at, drop_at}
use borrow.Author.Tests.{eqb-true, eqb-false, not-true, le-ltb}
use Rattle.lists.specs.Tests.{all_of, any_of}
use Rattle.lists.proofs.Tests.{any_one, test_where}
use Rattle.call.specs.declared.Call.{Call}
use Rattle.call.specs.Refusal.{first}
use Rattle.options.specs.declared.Options.{Options}
use Rattle.options.specs.Ranges.{in_range}
use Rattle.table.specs.Shoe.{valid_order}
use Rattle.history.specs.Entry.{Entry, is_load}
use Rattle.file_spec.specs.TableBlock.{table_block, loaded_conditions, order_in}
use Rattle.file_spec.specs.CallBlock.{most, call_bytes, call_block, ends_in_load, call_conditions}
use Rattle.file_spec.specs.File.{fits, writable, blocks_behind}
use Rattle.file_spec.specs.Number.{is_end, number_behind}
use Rattle.file_spec.specs.Handed.{code_entry, next_order, calls_behind}
use Rattle.file_spec.specs.Laws.{kept}
use Rattle.file_spec.proofs.Alls.{all_cons, cons_all, all_append, all-part, all_rest}
use Rattle.file_spec.proofs.TableBlocks.{loaded_accepted, table_order_lem}
use Rattle.file_spec.proofs.Codes.{fits_facts, code_read}
use Rattle.file_spec.proofs.CallBlocks.{is_load_call, none_any, codes_are, ends_are, calls-accepted}

abbrev pub no_load : List Call → Type 0
no_load calls = all_of (λ c. not (is_load_call c)) calls ≡ true

-- a call with nothing lent beside it
abbrev pub plain : Call → Entry
plain c = record { call = c; order = [] }

-- what can be written of a call: it fits, and a load has a valid order
pub writable_facts : (o : Options) (e : Entry) → writable o e ≡ true → (fits e.call ≡ true) × (is_load e ≡ true → valid_order o.decks e.order ≡ true)
unfolding writable
writable_facts o e h =
    let (fit, load) = (and-eq-true_iff (fits e.call) (not (is_load e) || valid_order o.decks e.order)).0 h in
    (fit, test_where (is_load e) (valid_order o.decks e.order) load)

-- one more call behind others: those before it, and itself as the last
module _ (calls : List Call) (c : Call) where
  abbrev pub now : List Call
  now = calls ++ c ∷ []

  pub now-length : length now ≡ length calls + 1
  now-length = length-append calls (c ∷ [])

  before_last : length calls ≡ length now - 1
  before_last = omega (arith, now-length)

  front : take (length now - 1) now ≡ calls
  front = take_at calls (c ∷ []) (length now - 1) before_last

  end : drop (length now - 1) now ≡ c ∷ []
  end = drop_at calls (c ∷ []) (length now - 1) before_last

  end-loads : any_of is_load_call (drop (length now - 1) now) ≡ is_load_call c
  end-loads = ap (any_of is_load_call) end ∙ any_one is_load_call c

  pub now-fits : all_of fits calls ≡ true → fits c ≡ true → all_of fits now ≡ true
  unfolding all_of
  now-fits fit one = all_append fits calls (c ∷ []) fit (cons_all fits c [] one refl)

  pub now-no_load : no_load calls → is_load_call c ≡ false → no_load now
  unfolding all_of
  now-no_load none one = all_append (λ x. not (is_load_call x)) calls (c ∷ []) none (cons_all (λ x. not (is_load_call x)) c [] (ap not one) refl)

  module _ (fit : all_of fits now ≡ true) (room : length calls < 50) where
    pub now-ends : ends_in_load (call_block now) ≡ is_load_call c
    now-ends = ends_are now fit (omega (arith, now-length)) (omega (arith, now-length)) ∙ end-loads

    pub now-accepted : (last : Bool) → no_load calls → not last && ltb (length now) most && not (is_load_call c) ≡ false → last && is_load_call c ≡ false → first (call_conditions last (call_block now)) ≡ 0
    now-accepted last none full ends =
        calls-accepted now fit (omega (arith, now-length)) (omega (arith, now-length)) last
        (ap (any_of is_load_call) front ∙ none_any is_load_call calls none)
        (ap (λ (b : Bool). not last && ltb (length now) most && not b) end-loads ∙ full)
        (ap (λ (b : Bool). last && b) end-loads ∙ ends)

-- one block after the other
module _ (start : List ℕ) where
  pub past_calls : (block : List ℕ) (blocks : List (List ℕ)) (ends : Bool) → first (call_conditions (is_end blocks) block) ≡ 0 → ends_in_load block ≡ ends
      → number_behind start false (block ∷ blocks) ≡ number_behind start ends blocks
  unfolding number_behind
  past_calls block blocks ends passed e = rw (passed, e)

  pub past_table : (block : List ℕ) (blocks : List (List ℕ)) → first (loaded_conditions start block) ≡ 0 → number_behind start true (block ∷ blocks) ≡ number_behind start false blocks
  unfolding number_behind
  past_table block blocks passed = rw passed

-- The blocks behind the first pass.
module _ (o : Options) (order : List ℕ) (range : in_range o ≡ true) (valid : valid_order o.decks order ≡ true) where
  abbrev start : List ℕ
  start = table_block o order

  -- the calls of an open block alone
  rest-accepted : (calls : List Call) → all_of fits calls ≡ true → no_load calls → 1 ≤ length calls → length calls < 50 → first (call_conditions true (call_block calls)) ≡ 0
  rest-accepted calls fit none some room =
      calls-accepted calls fit some (omega arith) true
      (none_any is_load_call (take (length calls - 1) calls) (all-part (λ c. not (is_load_call c)) (length calls - 1) calls none))
      refl
      (none_any is_load_call (drop (length calls - 1) calls) (all_rest (λ c. not (is_load_call c)) (length calls - 1) calls none))

  -- one call more: a load, the fiftieth, or neither
  module _ (calls : List Call) (e : Entry) (es : List Entry) (fit : all_of fits (now calls e.call) ≡ true) (none : no_load calls) (room : length calls < 50) where
    abbrev one : List ℕ
    one = call_block (now calls e.call)

    one_more : (load full : Bool) → is_load e ≡ load → eqb (length (now calls e.call)) most ≡ full → (is_load e ≡ true → valid_order o.decks e.order ≡ true)
        → number_behind start false (blocks_behind o [] es) ≡ 0
        → (no_load (now calls e.call) → length (now calls e.call) < 50 → number_behind start false (blocks_behind o (now calls e.call) es) ≡ 0)
        → number_behind start false (cond load (one ∷ table_block o e.order ∷ blocks_behind o [] es) (cond full (one ∷ blocks_behind o [] es) (blocks_behind o (now calls e.call) es))) ≡ 0
    unfolding is_end
    one_more true full l f lent rest more =
        past_calls start one (table_block o e.order ∷ blocks_behind o [] es) true
        (now-accepted calls e.call fit room false none (ap (λ (b : Bool). ltb (length (now calls e.call)) most && not b) l ∙ and-false (ltb (length (now calls e.call)) most)) refl)
        (now-ends calls e.call fit room ∙ l)
        ∙ past_table start (table_block o e.order) (blocks_behind o [] es) (loaded_accepted o order e.order range valid (lent l))
        ∙ rest
    one_more false true l f lent rest more =
        let fifty : length (now calls e.call) ≡ 50 = eqb-true (length (now calls e.call)) most f in
        let last : Bool = is_end (blocks_behind o [] es) in
        past_calls start one (blocks_behind o [] es) false
        (now-accepted calls e.call fit room last none
        (ap (λ (b : Bool). not last && b && not (is_load e)) (le-ltb (length (now calls e.call)) most (omega (arith, fifty))) ∙ ap (λ (b : Bool). b && not (is_load e)) (and-false (not last)))
        (ap (λ (b : Bool). last && b) l ∙ and-false last))
        (now-ends calls e.call fit room ∙ l)
        ∙ rest
    one_more false false l f lent rest more =
        let other : length (now calls e.call) ≡ 50 → ⊥ = eqb-false (length (now calls e.call)) most f in
        more (now-no_load calls e.call none l) (omega (arith, now-length calls e.call, other))

  pub behind-accepted : (calls : List Call) (es : List Entry) → all_of fits calls ≡ true → no_load calls → length calls < 50 → all_of (writable o) es ≡ true
      → number_behind start false (blocks_behind o calls es) ≡ 0
  unfolding blocks_behind number_behind is_end all_of
  behind-accepted [] [] fit none room ok = refl
  behind-accepted (c ∷ calls) [] fit none room ok = rw (rest-accepted (c ∷ calls) fit none (omega arith) room)
  behind-accepted calls (e ∷ es) fit none room ok =
      let (one_ok, more-ok) = all_cons (writable o) e es ok in
      let (one-fits, lent) = writable_facts o e one_ok in
      let fit-now = now-fits calls e.call fit one-fits in
      one_more calls e es fit-now none room (is_load e) (eqb (length (now calls e.call)) most) refl refl lent
      (behind-accepted [] es refl refl (omega arith) more-ok)
      (λ none-now room-now. behind-accepted (now calls e.call) es fit-now none-now room-now more-ok)

-- What the blocks hand out: calls of a block, each with the next block's order where it is a load.
abbrev lent_entry : List ℕ → Call → Entry
lent_entry order c = record { call = c; order = cond (is_load_call c) order [] }

block_entries : (order : List ℕ) (calls : List Call) → all_of fits calls ≡ true → map (code_entry order) (map call_bytes calls) ≡ map (lent_entry order) calls
unfolding call_bytes
block_entries order [] fit = refl
block_entries order (c ∷ calls) fit =
    let (one, more) = all_cons fits c calls fit in
    ap₂ ◌∷◌ (ap (λ (x : Call). record { call = x; order = cond (is_load_call c) order [] }) (code_read c (fits_facts c one))) (block_entries order calls more)

plain_entries : (order : List ℕ) (calls : List Call) → no_load calls → map (lent_entry order) calls ≡ map plain calls
plain_entries order [] none = refl
plain_entries order (c ∷ calls) none =
    let (one, more) = all_cons (λ x. not (is_load_call x)) c calls none in
    ap₂ ◌∷◌ (ap (λ (load : Bool). record { call = c; order = cond load order [] }) (not-true (is_load_call c) one)) (plain_entries order calls more)

-- the last of them lends what is lent to it
now_entries : (order : List ℕ) (calls : List Call) (c : Call) → no_load calls → map (lent_entry order) (now calls c) ≡ map plain calls ++ lent_entry order c ∷ []
now_entries order [] c none = refl
now_entries order (x ∷ calls) c none =
    let (one, more) = all_cons (λ y. not (is_load_call y)) x calls none in
    ap₂ ◌∷◌ (ap (λ (load : Bool). record { call = x; order = cond load order [] }) (not-true (is_load_call x) one)) (now_entries order calls c more)

-- an entry keeps its order exactly if it is a load
not_lent : (e : Entry) (order : List ℕ) → is_load e ≡ false → lent_entry order e.call ≡ kept e
not_lent e order l = rw l

plain-kept : (e : Entry) → is_load e ≡ false → plain e.call ≡ kept e
plain-kept e l = rw l

map-now : (calls : List Call) (c : Call) → map plain (now calls c) ≡ map plain calls ++ plain c ∷ []
map-now [] c = refl
map-now (x ∷ calls) c = ap (λ (xs : List Entry). plain x ∷ xs) (map-now calls c)

module _ (o : Options) where
  -- the calls of one block, then the others
  from_block : (calls : List Call) (blocks : List (List ℕ)) (ends : Bool) → all_of fits calls ≡ true → 1 ≤ length calls → length calls ≤ 50 → ends_in_load (call_block calls) ≡ ends
      → calls_behind false (call_block calls ∷ blocks) ≡ map (lent_entry (next_order blocks)) calls ++ calls_behind ends blocks
  unfolding calls_behind
  from_block calls blocks ends fit some few e =
      ap₂ (λ (codes : List (List ℕ)) (b : Bool). map (code_entry (next_order blocks)) codes ++ calls_behind b blocks) (codes_are calls fit some few) e
      ∙ ap (λ (es : List Entry). es ++ calls_behind ends blocks) (block_entries (next_order blocks) calls fit)

  module _ (range : in_range o ≡ true) (calls : List Call) (e : Entry) (es : List Entry) (fit : all_of fits (now calls e.call) ≡ true) (none : no_load calls) (room : length calls < 50) where
    -- the block that is now complete
    this : (blocks : List (List ℕ)) (ends : Bool) → is_load e ≡ ends
        → calls_behind false (call_block (now calls e.call) ∷ blocks) ≡ map plain calls ++ lent_entry (next_order blocks) e.call ∷ calls_behind ends blocks
    this blocks ends l =
        from_block (now calls e.call) blocks ends fit (omega (arith, now-length calls e.call)) (omega (arith, now-length calls e.call)) (now-ends calls e.call fit room ∙ l)
        ∙ ap (λ (xs : List Entry). xs ++ calls_behind ends blocks) (now_entries (next_order blocks) calls e.call none)
        ∙ append_assoc (map plain calls) (lent_entry (next_order blocks) e.call ∷ []) (calls_behind ends blocks)

    from-one-more : (load full : Bool) → is_load e ≡ load → eqb (length (now calls e.call)) most ≡ full → (is_load e ≡ true → valid_order o.decks e.order ≡ true)
        → calls_behind false (blocks_behind o [] es) ≡ map kept es
        → (no_load (now calls e.call) → length (now calls e.call) < 50 → calls_behind false (blocks_behind o (now calls e.call) es) ≡ map plain (now calls e.call) ++ map kept es)
        → calls_behind false
        (cond load (call_block (now calls e.call) ∷ table_block o e.order ∷ blocks_behind o [] es)
        (cond full (call_block (now calls e.call) ∷ blocks_behind o [] es) (blocks_behind o (now calls e.call) es)))
        ≡ map plain calls ++ kept e ∷ map kept es
    unfolding next_order calls_behind
    from-one-more true full l f lent rest more =
        let entries : lent_entry (order_in (table_block o e.order)) e.call ≡ kept e = ap (λ (cards : List ℕ). lent_entry cards e.call) (table_order_lem o e.order range (lent l)) in
        this (table_block o e.order ∷ blocks_behind o [] es) true l
        ∙ ap₂ (λ (x : Entry) (xs : List Entry). map plain calls ++ x ∷ xs) entries rest
    from-one-more false true l f lent rest more =
        this (blocks_behind o [] es) false l ∙ ap₂ (λ (x : Entry) (xs : List Entry). map plain calls ++ x ∷ xs) (not_lent e (next_order (blocks_behind o [] es)) l) rest
    from-one-more false false l f lent rest more =
        let other : length (now calls e.call) ≡ 50 → ⊥ = eqb-false (length (now calls e.call)) most f in
        more (now-no_load calls e.call none l) (omega (arith, now-length calls e.call, other))
        ∙ ap (λ (xs : List Entry). xs ++ map kept es) (map-now calls e.call)
        ∙ append_assoc (map plain calls) (plain e.call ∷ []) (map kept es)
        ∙ ap (λ (x : Entry). map plain calls ++ x ∷ map kept es) (plain-kept e l)

  pub handed_out : in_range o ≡ true → (calls : List Call) (es : List Entry) → all_of fits calls ≡ true → no_load calls → length calls < 50 → all_of (writable o) es ≡ true
      → calls_behind false (blocks_behind o calls es) ≡ map plain calls ++ map kept es
  unfolding blocks_behind calls_behind next_order all_of
  handed_out range [] [] fit none room ok = refl
  handed_out range (c ∷ calls) [] fit none room ok =
      from_block (c ∷ calls) [] (ends_in_load (call_block (c ∷ calls))) fit (omega arith) (omega arith) refl
      ∙ ap (λ (xs : List Entry). xs ++ []) (plain_entries [] (c ∷ calls) none)
  handed_out range calls (e ∷ es) fit none room ok =
      let (one_ok, more-ok) = all_cons (writable o) e es ok in
      let (one-fits, lent) = writable_facts o e one_ok in
      let fit-now = now-fits calls e.call fit one-fits in
      from-one-more range calls e es fit-now none room (is_load e) (eqb (length (now calls e.call)) most) refl refl lent
      (handed_out range [] es refl refl (omega arith) more-ok)
      (λ none-now room-now. handed_out range (now calls e.call) es fit-now none-now room-now more-ok)
