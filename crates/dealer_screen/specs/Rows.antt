-- Request 2.12: the rows of hands. The hand whose turn it is comes first, the other waiting hands follow in turn order, all others after them by seat and place. A row gives seat, place, cards
-- and total. Six are shown, those beyond are counted. A broken table shows no hands.
use Rattle.std.specs.Prelude.{Bool, true, false, cond, not, List, [], ◌∷◌, ◌++◌, ℕ, suc, length, take, replicate}
use Rattle.cards.specs.Hand.{cards_of, empty_hand}
use Rattle.cards.specs.Total.{total}
use Rattle.options.specs.declared.Options.{Options}
use Rattle.rules.specs.declared.seat_hand.SeatHand.{SeatHand}
use Rattle.rules.specs.SeatHand.{played_of}
use Rattle.rules.specs.Waits.{waits}
use Rattle.table.specs.declared.Seat.{Seat}
use Rattle.table.specs.declared.Table.{Table}
use Rattle.table.specs.Seat.{hands}
use Rattle.table.specs.Table.{up}
use Rattle.table.specs.Broken.{broken}
use Rattle.dealer_screen.specs.declared.rows.Row.{Row}

abbrev pub row : ℕ → ℕ → SeatHand → Row
row seat place h = record { seat = seat; place = place; hand = h.hand; total = total (cards_of h.hand) }

-- A row that no hand uses.
abbrev pub no_row : Row
no_row = record { seat = 0; place = 0; hand = empty_hand; total = 0 }

-- The rows of a seat's hands from place p on, of those that pass.
unfoldable pub place_rows : (SeatHand → Bool) → ℕ → ℕ → List SeatHand → List Row
place_rows passes seat p [] = []
place_rows passes seat p (h ∷ hs) = cond (passes h) (row seat p h ∷ []) [] ++ place_rows passes seat (suc p) hs

-- A hand in its seat waits.
abbrev pub hand_waits : Options → ℕ → Seat → SeatHand → Bool
hand_waits o card s h = waits o card (length (hands s)) (played_of h)

-- The hands of a seat that wait, or those that do not.
abbrev pub seat_rows : Bool → Options → ℕ → ℕ → Seat → List Row
seat_rows waiting o card seat s = place_rows (λ h. cond waiting (hand_waits o card s h) (not (hand_waits o card s h))) seat 0 (take s.hands.many s.hands.places)

-- Those of the seats from number i on.
unfoldable pub rows_from : Bool → Options → ℕ → ℕ → List Seat → List Row
rows_from waiting o card i [] = []
rows_from waiting o card i (s ∷ ss) = seat_rows waiting o card i s ++ rows_from waiting o card (suc i) ss

abbrev pub table_rows : Bool → Table → List Row
table_rows waiting t = rows_from waiting t.options (up t) 0 t.seats

-- All rows: turn order is by seat and place too.
unfoldable pub all_rows : Table → List Row
all_rows t = cond (broken t) [] (table_rows true t ++ table_rows false t)

-- Six are shown, with blank rows where there are fewer hands.
abbrev pub shown : ℕ
shown = 6

abbrev pub blank_rows : List Row
blank_rows = replicate 6 no_row
