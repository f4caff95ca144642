-- What the code's writer holds and gives, as the definitions see it: the bytes of the calls of the open block, and the blocks that are complete.
use Rattle.std.specs.Prelude.{Result, Ok, Err, List, [], ◌∷◌, ℕ, ◌*◌, take}
use Rattle.call.specs.declared.refusal.Refusal.{Refusal}
use Rattle.call.specs.Refusal.{number_of}
use Rattle.file_spec.specs.Writer.{Written, written}
use Rattle.file_writer.specs.declared.writer.Writer.{Writer}
use Rattle.file_writer.specs.declared.writer.Blocks.{Blocks}
use Rattle.file_writer.specs.declared.writer.Blocks.TheVariants.{None, One, Two}

-- The bytes of the open block's calls.
abbrev pub calls_of : Writer → List ℕ
calls_of w = take (10 * w.many) w.bytes

abbrev pub blocks_in : Blocks → List (List ℕ)
blocks_in None = []
blocks_in (One block) = block ∷ []
blocks_in (Two blocks) = blocks

-- What the beginning gives, and what one more call gives, with the writer after it.
abbrev pub begun_of : Result (Writer × List ℕ) Refusal → Written
begun_of (Ok (w, table)) = written (table ∷ []) w.many (calls_of w)
begun_of (Err why) = record { number = number_of why; blocks = []; many = 0; bytes = [] }

abbrev pub written_of : Result Blocks Refusal → Writer → Written
written_of (Ok blocks) w = written (blocks_in blocks) w.many (calls_of w)
written_of (Err why) w = record { number = number_of why; blocks = []; many = w.many; bytes = calls_of w }
