-- Request 2.9: "the writer gives, block by block, the one file that a session has." It keeps the options and the bytes of the block that is still open, and is told each accepted call.
use Rattle.std.specs.Prelude.{cond, not, ◌&&◌, ◌||◌, List, [], ◌∷◌, ◌++◌, ℕ, ◌+◌, leb, eqb}
use Rattle.options.specs.declared.Options.{Options}
use Rattle.options.specs.Ranges.{in_range}
use Rattle.table.specs.Shoe.{valid_order}
use Rattle.history.specs.Entry.{Entry, is_load}
use Rattle.file_spec.specs.Block.{sealed}
use Rattle.file_spec.specs.TableBlock.{table_block}
use Rattle.file_spec.specs.CallBlock.{most, call_bytes}
use Rattle.file_spec.specs.File.{writable}

-- What a call of the writer gives: 26 where it is told something that no file can hold, and then nothing has changed; the blocks that are now complete; the calls that the open block
-- has, and their bytes.
pub record Written : Type 0 where
  pub number : ℕ
  pub blocks : List (List ℕ)
  pub many : ℕ
  pub bytes : List ℕ

-- The block of so many calls, from their bytes.
abbrev pub block_of : ℕ → List ℕ → List ℕ
block_of many bytes = sealed (many ∷ bytes)

abbrev pub written : List (List ℕ) → ℕ → List ℕ → Written
written blocks many bytes = record { number = 0; blocks = blocks; many = many; bytes = bytes }

abbrev pub unwritten : ℕ → List ℕ → Written
unwritten many bytes = record { number = 26; blocks = []; many = many; bytes = bytes }

-- The beginning: the table block.
unfoldable pub begun : Options → List ℕ → Written
begun o order = cond (in_range o && valid_order o.decks order) (written (table_block o order ∷ []) 0 []) (unwritten 0 [])

-- One more call, where the open block has `many` calls of these bytes: a full block, and one that ends in a load with the table block behind it, are given out.
unfoldable pub added : Options → ℕ → List ℕ → Entry → Written
added o many bytes e =
    let now = bytes ++ call_bytes e.call in
    cond (leb most many || not (writable o e)) (unwritten many bytes)
    (cond (is_load e) (written (block_of (many + 1) now ∷ table_block o e.order ∷ []) 0 [])
    (cond (eqb (many + 1) most) (written (block_of (many + 1) now ∷ []) 0 [])
    (written [] (many + 1) now)))

-- The end: the open block, where it has a call.
unfoldable pub ended : ℕ → List ℕ → List (List ℕ)
ended many bytes = cond (eqb many 0) [] (block_of many bytes ∷ [])

-- All blocks that a writer gives from here on, told these calls.
unfoldable pub writes : Options → ℕ → List ℕ → List Entry → List (List ℕ)
writes o many bytes [] = ended many bytes
writes o many bytes (e ∷ es) = (added o many bytes e).blocks ++ writes o (added o many bytes e).many (added o many bytes e).bytes es
