-- A call of a session file by its numbers, read and written.
use Rattle.std.specs.Prelude.{◌≡◌, Bool, cond, ◌&&◌, List, [], ◌∷◌, ℕ, take, drop}
use Rattle.options.specs.declared.Options.{Options}
use Rattle.call.specs.Call.{kind, seat, position, amount}
use Rattle.file_spec.specs.File.{known_kind}
use Rattle.file_spec.specs.Reader.{Handed}
use Rattle.file_spec.specs.Writer.{Written as WrittenView, unwritten, added}
use Rattle.file_writer.specs.declared.writer.Writer.{Writer}
use Rattle.file_writer.specs.Writer.{calls_of}
use Rattle.discgauze.specs.declared.file.FileCall.{FileCall}
use Rattle.discgauze.specs.declared.file.Written.{Written}
use Rattle.discgauze.specs.declared.file.Last.{Last}
use Rattle.discgauze.specs.Calls.{unknown_kind, call_by}

-- What is handed out at a place: the call by its numbers, the order that is lent beside it, the place behind it.
pub record HandedBy : Type 0 where
  pub found : Bool
  pub kind : ℕ
  pub seat : ℕ
  pub position : ℕ
  pub amount : ℕ
  pub order : List ℕ
  pub behind : ℕ

-- The kind; 0, which is none, where no call is found or it is no known one.
abbrev pub number_in : Bool → Bool → ℕ → ℕ
number_in found known k = cond (found && known) k 0

abbrev pub file_call_by : Handed → HandedBy
file_call_by h =
    record {
      found = h.found;
      kind = number_in h.found (known_kind h.call) (kind h.call);
      seat = seat h.call;
      position = position h.call;
      amount = amount h.call;
      order = h.order;
      behind = h.behind;
    }

-- The code's struct has the order by its place in the file and its number of cards.
abbrev pub file_call_of : List ℕ → FileCall → HandedBy
file_call_of file r =
    record {
      found = r.found;
      kind = r.kind;
      seat = r.seat;
      position = r.position;
      amount = r.amount;
      order = take r.cards (drop r.order file);
      behind = r.behind;
    }

-- The blocks that are complete, by their number.
abbrev pub written_by : Written → WrittenView
written_by r = record { number = r.number; blocks = take r.blocks (r.first ∷ r.second ∷ []); many = r.writer.many; bytes = calls_of r.writer }

-- The code gives what the definition says, and a writer of the same options.
pub record Gives (o : Options) (view : WrittenView) (r : Written) : Type 0 where
  pub same : written_by r ≡ view
  pub options : r.writer.options ≡ o

abbrev pub last_of : Last → List (List ℕ)
last_of r = take r.blocks (r.block ∷ [])

-- One more call for the writer; an unknown kind is refused, and nothing has changed.
unfoldable pub added_by : Writer → ℕ → ℕ → ℕ → ℕ → List ℕ → WrittenView
added_by w kind seat position amount order =
    cond (unknown_kind kind) (unwritten w.many (calls_of w))
    (added w.options w.many (calls_of w) (record { call = call_by kind seat position amount; order = order }))
