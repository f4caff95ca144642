-- The blocks of a file, one after another: what is left behind one of them decides the number of all.
use mathlib.Core.Path.{◌≡◌, refl, sym, ap, ◌∙◌}
use mathlib.Core.Bool.{Bool, true, false, cond, not, ◌&&◌, ◌||◌, or-true}
use mathlib.Core.List.{List, [], ◌∷◌}
use Prim.Native.Nat.{ℕ, suc, ◌+◌, ◌/◌, ◌%◌, ◌≤◌, ◌<◌, zero}
use native.Mathlib.Decide.{ℕ_discrete}
use native.Mathlib.Numerals.{add-one}
use native.Mathlib.Omega.{arith}
use borrow.Author.Tests.{eq-eqb, ne_eqb}
use lib.Dec.{eqb}
use lib.ListN.{length, drop, get_or, length-drop, drop_of_length-le}
use lib.Seq.{drop-cons}
use Rattle.call.specs.declared.refusal.Refusal.{Refusal}
use Rattle.call.specs.Refusal.{first, number_of}
use Rattle.call.proofs.Refusals.{refusal_some}
use Rattle.std.specs.Simd.{first_chunks}
use Rattle.file_spec.specs.Block.{pieces}
use Rattle.file_spec.specs.TableBlock.{table_conditions, loaded_conditions}
use Rattle.file_block.proofs.Pieces.{chunks_are}
use Rattle.file_spec.specs.CallBlock.{call_conditions, ends_in_load}
use Rattle.file_spec.specs.Number.{or_else, is_end, number_behind, blocks_number, file_blocks, file_number}

-- what is asked of the block that has to come
abbrev pub block_number : List ℕ → Bool → Bool → List ℕ → ℕ
block_number start loaded last block = cond loaded (first (loaded_conditions start block)) (first (call_conditions last block))

step : (start : List ℕ) (loaded : Bool) (block : List ℕ) (blocks : List (List ℕ)) (last : Bool) → is_end blocks ≡ last
    → number_behind start loaded (block ∷ blocks) ≡ or_else (block_number start loaded last block) (number_behind start (not loaded && ends_in_load block) blocks)
unfolding number_behind
step start true block blocks last e = refl
step start false block blocks last e = rw e

is_last : (blocks : List (List ℕ)) (i : ℕ) → i < length blocks → is_end (drop (i + 1) blocks) ≡ eqb (i + 1) (length blocks)
unfolding is_end
is_last blocks i h = go (drop (i + 1) blocks) refl
  where
    go : (rest : List (List ℕ)) → drop (i + 1) blocks ≡ rest → is_end rest ≡ eqb (i + 1) (length blocks)
    go [] e = sym (eq-eqb (i + 1) (length blocks) (omega (arith, length-drop (i + 1) blocks, ap length e)))
    go (b ∷ bs) e = sym (ne_eqb (i + 1) (length blocks) (λ all. omega (arith, length-drop (i + 1) blocks, ap length e)))

-- one block, and the blocks behind it
behind-next : (start : List ℕ) (loaded : Bool) (blocks : List (List ℕ)) (i : ℕ) → i < length blocks
    → number_behind start loaded (drop i blocks)
    ≡ or_else (block_number start loaded (eqb (i + 1) (length blocks)) (get_or blocks i [])) (number_behind start (not loaded && ends_in_load (get_or blocks i [])) (drop (i + 1) blocks))
behind-next start loaded blocks i h =
    ap (number_behind start loaded) (drop-cons blocks i [] h ∙ ap (λ (n : ℕ). get_or blocks i [] ∷ drop n blocks) (sym (add-one i)))
    ∙ step start loaded (get_or blocks i []) (drop (i + 1) blocks) (eqb (i + 1) (length blocks)) (is_last blocks i h)

-- the block decides, or those behind it do
module _ (start : List ℕ) (loaded : Bool) (blocks : List (List ℕ)) (i : ℕ) (inside : i < length blocks) where
  abbrev here : ℕ
  here = block_number start loaded (eqb (i + 1) (length blocks)) (get_or blocks i [])

  pub refused_block : (why : Refusal) → number_of why ≡ here → number_of why ≡ number_behind start loaded (drop i blocks)
  refused_block why e = sym (behind-next start loaded blocks i inside ∙ rw (← e, ne_eqb (number_of why) 0 (refusal_some why)))

  pub passed_block : 0 ≡ here → number_behind start (not loaded && ends_in_load (get_or blocks i [])) (drop (i + 1) blocks) ≡ number_behind start loaded (drop i blocks)
  passed_block e = sym (behind-next start loaded blocks i inside ∙ rw (← e))

pub behind-end : (start : List ℕ) (loaded : Bool) (blocks : List (List ℕ)) (i : ℕ) → length blocks ≤ i → number_behind start loaded (drop i blocks) ≡ 0
unfolding number_behind
behind-end start loaded blocks i h = rw (drop_of_length-le blocks {i = i} h)

-- the length of the whole comes first, then its blocks
module _ (file : List ℕ) where
  pub wrong_length : (length file % 512 ≡ 0 → ⊥) → 24 ≡ file_number file
  unfolding file_number
  wrong_length part = rw (ne_eqb (length file % 512) 0 part, or-true)

  pub no_block : length file / 512 ≡ 0 → 24 ≡ file_number file
  unfolding file_number
  no_block none = go (ℕ_discrete (length file) 0)
    where
      go : Dec (length file ≡ 0) → 24 ≡ cond (eqb (length file) 0 || not (eqb (length file % 512) 0)) 24 (blocks_number (file_blocks file))
      go (yes e) = rw (eq-eqb (length file) 0 e)
      go (no some) = rw (ne_eqb (length file % 512) 0 (λ whole. some (omega arith)), or-true)

  -- of whole blocks, the first and those behind it
  pub first_block : (start : List ℕ) (behind : List (List ℕ)) → length file % 512 ≡ 0 → first_chunks 512 (length file / 512) file ≡ start ∷ behind
      → file_number file ≡ or_else (first (table_conditions start)) (number_behind start false behind)
  unfolding file_number blocks_number pieces
  first_block start behind whole e =
      let blocks : file_blocks file ≡ start ∷ behind = sym (chunks_are 512 (length file / 512) file) ∙ e in
      let some : length file ≡ 0 → ⊥ = λ none. absurd (no_blocks (length file / 512) (omega arith) blocks) in
      rw (ne_eqb (length file) 0 some, eq-eqb (length file % 512) 0 whole, blocks)
    where
      no_blocks : (n : ℕ) → n ≡ 0 → pieces 512 n file ≡ start ∷ behind → ⊥
      no_blocks zero z all = omega (arith, ap length all)
      no_blocks (suc n) z all = omega arith
