-- The next of its block, else the first of the next call block.
use Prim.Native.Nat.{ℕ, ◌+◌, ◌*◌, ◌%◌}
use mathlib.Core.Path.{◌≡◌, ap, ◌∙◌}
use mathlib.Core.Bool.{true, false}
use native.Mathlib.Omega.{arith}
use borrow.Author.Tests.{eq-eqb, ne_eqb, le-leb, lt-leb}
use lib.Dec.{eqb}
use Rattle.file_spec.specs.CallBlock.{is_load_code}
use Rattle.file_spec.specs.Reader.{code_of, many_of, place_behind}
use Rattle.file_block.proofs.Pieces.{code_kind_lem}
use Rattle.session_file.proofs.reader.place_behind.Goals as goal

pub returns-then-at-from : goal.returns-then-at-from
unfolding place_behind
returns-then-at-from c =
    let file = c.args.file.now in
    let at = c.args.at in
    rw (le-leb (at % 512 + 10) (10 * many_of file at) (omega (arith, c.from.ensures, c.if-at-from.true)))

pub returns-then-file-at-eq17 : goal.returns-then-file-at-eq17
unfolding place_behind
returns-then-file-at-eq17 c =
    let file = c.args.file.now in
    let at = c.args.at in
    let load : is_load_code (code_of file at) ≡ true = ap (λ (k : ℕ). eqb k 17) (code_kind_lem file at) ∙ eq-eqb _ 17 c.if-file-at-eq17.true in
    rw (lt-leb (at % 512 + 10) (10 * many_of file at) (omega (arith, c.from.ensures, c.if-at-from.false)), load) c.call_place.ensures

pub returns : goal.returns
unfolding place_behind
returns c =
    let file = c.args.file.now in
    let at = c.args.at in
    let load : is_load_code (code_of file at) ≡ false = ap (λ (k : ℕ). eqb k 17) (code_kind_lem file at) ∙ ne_eqb _ 17 c.if-file-at-eq17.false in
    rw (lt-leb (at % 512 + 10) (10 * many_of file at) (omega (arith, c.from.ensures, c.if-at-from.false)), load) c.call_place-2.ensures
