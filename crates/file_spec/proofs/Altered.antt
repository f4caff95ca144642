-- One byte altered: in its block the check no longer fits, and a file with such a block is refused.
use mathlib.Core.Path.{◌≡◌, refl, sym, ◌∙◌, ap}
use mathlib.Core.Bool.{Bool, true, false, not}
use mathlib.Core.List.{List, [], ◌∷◌}
use Prim.Native.Nat.{ℕ, ◌+◌, ◌*◌, ◌/◌, ◌%◌, ◌<◌}
use native.Mathlib.Omega.{arith}
use lib.ListN.{length, take, drop, get_or, set, length-drop, length-set}
use lib.Seq.{length-take-le, drop-set-add, take-set-lt, get_or-take, get_or-drop}
use borrow.Author.Tests.{not-false}
use Rattle.lists.specs.Tests.{all_of}
use Rattle.lists.proofs.Tests.{all-at}
use Rattle.call.specs.Refusal.{first}
use Rattle.call.proofs.Refusals.{accepted-head}
use Rattle.file_spec.specs.Block.{is_byte, checks}
use Rattle.file_spec.specs.TableBlock.{table_conditions, loaded_conditions}
use Rattle.file_spec.specs.CallBlock.{call_conditions, ends_in_load}
use Rattle.file_spec.specs.Number.{is_end, number_behind, blocks_number, file_blocks, file_number}
use Rattle.file_spec.specs.Laws.{OneByteAltered}
use Rattle.file_spec.proofs.Alls.{cons_all, all-part, all_rest}
use Rattle.file_spec.proofs.Pieces.{pieces-length, piece_at}
use Rattle.file_spec.proofs.Sealing.{altered_block}
use Rattle.file_spec.proofs.TableBlocks.{loaded_table}
use Rattle.file_spec.proofs.OneFile.{both_zero, whole_blocks, number_of_blocks}

-- every block of an accepted file checks
table_checked : (block : List ℕ) → first (table_conditions block) ≡ 0 → checks block ≡ true
unfolding table_conditions
table_checked block h = not-false (checks block) (accepted-head 25 (not (checks block)) _ (omega arith) h)

calls_checked : (last : Bool) (block : List ℕ) → first (call_conditions last block) ≡ 0 → checks block ≡ true
unfolding call_conditions
calls_checked last block h = not-false (checks block) (accepted-head 25 (not (checks block)) _ (omega arith) h)

behind_checked : (start : List ℕ) (loaded : Bool) (blocks : List (List ℕ)) → number_behind start loaded blocks ≡ 0 → all_of checks blocks ≡ true
unfolding number_behind all_of
behind_checked start loaded [] h = refl
behind_checked start true (block ∷ blocks) h =
    let (here, rest) = both_zero (first (loaded_conditions start block)) (number_behind start false blocks) h in
    cons_all checks block blocks (table_checked block (loaded_table start block here)) (behind_checked start false blocks rest)
behind_checked start false (block ∷ blocks) h =
    let (here, rest) = both_zero (first (call_conditions (is_end blocks) block)) (number_behind start (ends_in_load block) blocks) h in
    cons_all checks block blocks (calls_checked (is_end blocks) block here) (behind_checked start (ends_in_load block) blocks rest)

all_checked : (blocks : List (List ℕ)) → blocks_number blocks ≡ 0 → all_of checks blocks ≡ true
unfolding blocks_number all_of
all_checked [] h = refl
all_checked (start ∷ blocks) h =
    let (here, rest) = both_zero (first (table_conditions start)) (number_behind start false blocks) h in
    cons_all checks start blocks (table_checked start here) (behind_checked start false blocks rest)

-- so the block that a place lies in checks
checked_at : (file : List ℕ) → file_number file ≡ 0 → (k : ℕ) → 512 * k < length file → checks (take 512 (drop (512 * k) file)) ≡ true
checked_at file h k inside =
    let near : k < length file / 512 = omega (arith, whole_blocks file h) in
    ap checks (sym (piece_at 512 (length file / 512) file k near))
    ∙ all-at checks (file_blocks file) k [] (all_checked (file_blocks file) (number_of_blocks file h)) (omega (arith, near, pieces-length 512 (length file / 512) file))

pub one_byte_altered : OneByteAltered
one_byte_altered file bytes before place byte inside small other after =
    let k : ℕ = place / 512 in
    let i : ℕ = place % 512 in
    let here : place ≡ 512 * k + i = omega arith in
    let block : List ℕ = take 512 (drop (512 * k) file) in
    let len : length block ≡ 512 = length-take-le 512 (drop (512 * k) file) (omega (arith, whole_blocks file before, length-drop (512 * k) file)) in
    let altered : take 512 (drop (512 * k) (set file place byte)) ≡ set block i byte =
    ap (λ (p : ℕ). take 512 (drop (512 * k) (set file p byte))) here
    ∙ ap (take 512) (drop-set-add (512 * k) file i byte)
    ∙ take-set-lt 512 (drop (512 * k) file) i byte (omega arith) in
    let old : get_or block i 0 ≡ get_or file place 0 =
    get_or-take 512 (drop (512 * k) file) i 0 (omega arith) ∙ get_or-drop (512 * k) file i 0 ∙ ap (λ (p : ℕ). get_or file p 0) (sym here) in
    altered_block block i byte (all-part is_byte 512 (drop (512 * k) file) (all_rest is_byte (512 * k) file bytes)) len (omega arith) small
    (λ same. other (same ∙ old))
    (checked_at file before k (omega arith))
    (ap checks (sym altered) ∙ checked_at (set file place byte) after k (omega (arith, length-set file place byte)))
