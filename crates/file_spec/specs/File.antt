-- Request 2.9: "A file begins with a table block, and only accepted calls are written. … A load is the last call of its block and a table block with the same options follows.
-- Every call block is full unless it ends in a load or is the file's last." The one file that a session has.
use Rattle.std.specs.Prelude.{Bool, true, cond, not, ◌&&◌, ◌||◌, List, [], ◌∷◌, ◌++◌, ℕ, ltb, leb, eqb, length}
use Rattle.lists.specs.Flat.{flat}
use Rattle.call.specs.declared.Call.{Call}
use Rattle.call.specs.declared.Call.TheVariants.{Fill, Credit, Buy, Cash, Stake, Deal, Insure, Stand, Draw, Double, Split, Surrender, Even, Five, Close, Void, Load, Side}
use Rattle.call.specs.Call.{seat, position, amount}
use Rattle.options.specs.declared.Options.{Options}
use Rattle.table.specs.Shoe.{valid_order}
use Rattle.history.specs.Entry.{Entry, is_load}
use Rattle.file_spec.specs.TableBlock.{table_block}
use Rattle.file_spec.specs.CallBlock.{most, call_block}

-- The blocks behind the first: `calls` are those of the block that is still open, and behind it come these accepted calls, oldest first.
unfoldable pub blocks_behind : Options → List Call → List Entry → List (List ℕ)
blocks_behind o [] [] = []
blocks_behind o (c ∷ calls) [] = call_block (c ∷ calls) ∷ []
blocks_behind o calls (e ∷ es) =
    let now = calls ++ e.call ∷ [] in
    cond (is_load e) (call_block now ∷ table_block o e.order ∷ blocks_behind o [] es)
    (cond (eqb (length now) most) (call_block now ∷ blocks_behind o [] es)
    (blocks_behind o now es))

-- The file of a session: its options, the order of its opening, its accepted calls, oldest first.
abbrev pub session_blocks : Options → List ℕ → List Entry → List (List ℕ)
session_blocks o order es = table_block o order ∷ blocks_behind o [] es

unfoldable pub file_of : Options → List ℕ → List Entry → List ℕ
file_of o order es = flat (λ block. block) (session_blocks o order es)

-- A side stake has one of its four kinds (request 2.6).
unfoldable pub known_kind : Call → Bool
known_kind (Fill n) = true
known_kind (Credit n) = true
known_kind (Buy at n) = true
known_kind (Cash at n) = true
known_kind (Stake at n) = true
known_kind Deal = true
known_kind (Insure at n) = true
known_kind (Stand at) = true
known_kind (Draw at) = true
known_kind (Double at) = true
known_kind (Split at) = true
known_kind (Surrender at) = true
known_kind (Even at) = true
known_kind (Five at) = true
known_kind Close = true
known_kind Void = true
known_kind Load = true
known_kind (Side at k n) = leb 1 k && leb k 4

-- A call that ten bytes can hold.
abbrev pub fits : Call → Bool
fits c = known_kind c && ltb (seat c) 16 && ltb (position c) 16 && leb (amount c) 18446744073709551615

-- A call that a file can hold, a load with an order that can be loaded. Every accepted call is one (`Laws.antt`).
unfoldable pub writable : Options → Entry → Bool
writable o e = fits e.call && (not (is_load e) || valid_order o.decks e.order)
