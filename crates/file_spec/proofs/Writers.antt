-- The writer gives the session's blocks: what it keeps are the calls of the open block, in bytes.
use mathlib.Core.Path.{◌≡◌, refl, sym, ◌∙◌, ap, ap₂}
use mathlib.Core.Bool.{Bool, true, false, cond}
use mathlib.Core.List.{List, [], ◌∷◌, ◌++◌, append_assoc, append-nil}
use Prim.Native.Nat.{ℕ, ◌+◌, ◌<◌}
use native.Mathlib.Omega.{arith}
use lib.Dec.{eqb, eqb-suc-zero}
use lib.ListN.{length}
use borrow.Author.Tests.{lt-leb, eqb-false}
use Rattle.lists.specs.Tests.{all_of}
use Rattle.lists.specs.Flat.{flat}
use Rattle.call.specs.declared.Call.{Call}
use Rattle.options.specs.declared.Options.{Options}
use Rattle.options.specs.Ranges.{in_range}
use Rattle.table.specs.Shoe.{valid_order}
use Rattle.history.specs.Entry.{Entry, is_load}
use Rattle.file_spec.specs.TableBlock.{table_block}
use Rattle.file_spec.specs.CallBlock.{most, call_bytes, call_block}
use Rattle.file_spec.specs.File.{writable, blocks_behind, file_of}
use Rattle.file_spec.specs.Writer.{Written, block_of, written, begun, added, ended, writes}
use Rattle.file_spec.proofs.Alls.{all_cons}
use Rattle.file_spec.proofs.Pieces.{joined}
use Rattle.file_spec.proofs.Files.{now, now-length}

flat-now : (calls : List Call) (c : Call) → flat call_bytes (now calls c) ≡ flat call_bytes calls ++ call_bytes c
unfolding flat
flat-now [] c = append-nil (call_bytes c)
flat-now (x ∷ calls) c = ap (λ (l : List ℕ). call_bytes x ++ l) (flat-now calls c) ∙ sym (append_assoc (call_bytes x) (flat call_bytes calls) (call_bytes c))

module _ (o : Options) where
  -- a call that can be written, where there is room
  takes : (many : ℕ) (bytes : List ℕ) (e : Entry) → many < 50 → writable o e ≡ true
      → added o many bytes e
      ≡ cond (is_load e) (written (block_of (many + 1) (bytes ++ call_bytes e.call) ∷ table_block o e.order ∷ []) 0 [])
      (cond (eqb (many + 1) most) (written (block_of (many + 1) (bytes ++ call_bytes e.call) ∷ []) 0 []) (written [] (many + 1) (bytes ++ call_bytes e.call)))
  unfolding added
  takes many bytes e room ok = rw (lt-leb most many room, ok)

  -- all that a writer gives once it has given this
  abbrev goes_on : Written → List Entry → List (List ℕ)
  goes_on w es = w.blocks ++ writes o w.many w.bytes es

  module _ (calls : List Call) (e : Entry) (es : List Entry) where
    abbrev full : List ℕ
    full = call_block (now calls e.call)

    same_block : block_of (length calls + 1) (flat call_bytes calls ++ call_bytes e.call) ≡ full
    unfolding call_block
    same_block = ap₂ block_of (sym (now-length calls e.call)) (sym (flat-now calls e.call))

    one_more : (load last : Bool) → eqb (length (now calls e.call)) most ≡ last → length calls < 50 → writes o 0 [] es ≡ blocks_behind o [] es
        → (length (now calls e.call) < 50 → writes o (length (now calls e.call)) (flat call_bytes (now calls e.call)) es ≡ blocks_behind o (now calls e.call) es)
        → goes_on
        (cond load (written (block_of (length calls + 1) (flat call_bytes calls ++ call_bytes e.call) ∷ table_block o e.order ∷ []) 0 [])
        (cond last (written (block_of (length calls + 1) (flat call_bytes calls ++ call_bytes e.call) ∷ []) 0 []) (written [] (length calls + 1) (flat call_bytes calls ++ call_bytes e.call))))
        es
        ≡ cond load (full ∷ table_block o e.order ∷ blocks_behind o [] es) (cond last (full ∷ blocks_behind o [] es) (blocks_behind o (now calls e.call) es))
    one_more true last f room rest more = ap₂ (λ (b : List ℕ) (bs : List (List ℕ)). b ∷ table_block o e.order ∷ bs) same_block rest
    one_more false true f room rest more = ap₂ ◌∷◌ same_block rest
    one_more false false f room rest more =
        let other : length (now calls e.call) ≡ 50 → ⊥ = eqb-false (length (now calls e.call)) most f in
        ap₂ (λ (n : ℕ) (l : List ℕ). writes o n l es) (sym (now-length calls e.call)) (sym (flat-now calls e.call))
        ∙ more (omega (arith, now-length calls e.call, other))

  gives : (calls : List Call) (es : List Entry) → length calls < 50 → all_of (writable o) es ≡ true → writes o (length calls) (flat call_bytes calls) es ≡ blocks_behind o calls es
  unfolding writes ended blocks_behind call_block flat
  gives [] [] room ok = refl
  gives (c ∷ calls) [] room ok = rw (eqb-suc-zero (length calls))
  gives calls (e ∷ es) room ok =
      let (one_ok, more-ok) = all_cons (writable o) e es ok in
      ap (λ (w : Written). goes_on w es) (takes (length calls) (flat call_bytes calls) e room one_ok)
      ∙ ap
      (λ (k : ℕ).
      goes_on
      (cond (is_load e) (written (block_of (length calls + 1) (flat call_bytes calls ++ call_bytes e.call) ∷ table_block o e.order ∷ []) 0 [])
      (cond (eqb k most) (written (block_of (length calls + 1) (flat call_bytes calls ++ call_bytes e.call) ∷ []) 0 []) (written [] (length calls + 1) (flat call_bytes calls ++ call_bytes e.call))))
      es)
      (sym (now-length calls e.call))
      ∙ one_more calls e es (is_load e) (eqb (length (now calls e.call)) most) refl room (gives [] es (omega arith) more-ok) (λ more_Room. gives (now calls e.call) es more_Room more-ok)

  pub writer_gives : (order : List ℕ) (es : List Entry) → in_range o ≡ true → valid_order o.decks order ≡ true → all_of (writable o) es ≡ true
      → joined (begun o order).blocks ++ joined (writes o 0 [] es) ≡ file_of o order es
  unfolding begun file_of flat
  writer_gives order es range valid ok =
      rw (range, valid) (ap₂ (λ (front : List ℕ) (blocks : List (List ℕ)). front ++ joined blocks) (append-nil (table_block o order)) (gives [] es (omega arith) ok))
