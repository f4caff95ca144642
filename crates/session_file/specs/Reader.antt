-- What the code hands out, as the definitions see it: the order by its place in the file and its number of cards; where there is none the reader stays.
use Rattle.std.specs.Prelude.{◌≡◌, true, false, Option, Some, None, List, [], ℕ, take, drop}
use Rattle.call.specs.declared.Call.TheVariants.{Load}
use Rattle.file_spec.specs.Reader.{Handed as HandedView, handed_at}
use Rattle.session_file.specs.declared.reader.Handed.{Handed}
use Rattle.session_file.specs.declared.reader.Reader.{Reader}

abbrev pub order_of : List ℕ → Handed → List ℕ
order_of file h = take h.cards (drop h.order file)

abbrev pub handed_of : List ℕ → ℕ → Option Handed → HandedView
handed_of file at (Some h) = record { found = true; call = h.call; order = order_of file h; behind = h.behind }
handed_of file at None = record { found = false; call = Load; order = []; behind = at }

-- One call of a reader: what the definitions hand out at its place, and the place behind it.
pub record HandsOut (r : Reader) (found : Option Handed) (next : Reader) : Type 0 where
  pub handed : handed_of r.file.now r.at found ≡ handed_at r.file.now r.at
  pub file : next.file ≡ r.file
  pub at : next.at ≡ (handed_at r.file.now r.at).behind
