-- Rows gathered one by one are the list of rows: the struct holds the first six, and their number.
use mathlib.Core.Path.{◌≡◌, refl, sym, ◌∙◌, ap}
use mathlib.Core.Bool.{Bool, true, false, cond}
use mathlib.Core.List.{List, [], ◌∷◌, ◌++◌, append_assoc, append-nil}
use Prim.Native.Nat.{ℕ, ◌+◌, ◌≤◌, ◌<◌}
use native.Mathlib.Nat.{zero-add}
use native.Mathlib.Omega.{arith}
use lib.Dec.{ltb}
use lib.ListN.{length, take, get_or, set, length-append}
use lib.Seq.{sets, take_all, take-append-le}
use borrow.Author.Tests.{ltb-true, ltb-false}
use Rattle.lists.proofs.Stores.{sets_append}
use Rattle.lists.proofs.Numbered.{numbered_next}
use Rattle.options.specs.declared.Options.{Options}
use Rattle.rules.specs.declared.seat_hand.SeatHand.{SeatHand}
use Rattle.table.specs.declared.Seat.{Seat}
use Rattle.table.specs.declared.Table.{Table}
use Rattle.table.specs.Seat.{missing_place, missing_seat}
use Rattle.table.specs.Broken.{broken}
use Rattle.dealer_screen.specs.declared.lights.SeatLights.{SeatLights}
use Rattle.dealer_screen.specs.declared.rows.Row.{Row}
use Rattle.dealer_screen.specs.declared.rows.Rows.{Rows}
use Rattle.dealer_screen.specs.Rows.{row, shown, blank_rows, place_rows, seat_rows, rows_from, table_rows, all_rows}
use Rattle.dealer_screen.specs.Lights.{all_lights}
use Rattle.dealer_screen.specs.Screen.{screen_of}
use Rattle.dealer_screen.specs.Aids.Held.{make_rows, rows_of, with_row, with_rows, held_screen}

-- several lists one behind the other
pub rows_append : (rows : Rows) (xs ys : List Row) → with_rows rows (xs ++ ys) ≡ with_rows (with_rows rows xs) ys
unfolding with_rows
rows_append rows [] ys = refl
rows_append rows (x ∷ xs) ys = rows_append (with_row rows x) xs ys

pub rows-count : (rows : Rows) (xs : List Row) → (with_rows rows xs).count ≡ rows.count + length xs
unfolding with_rows with_row
rows-count rows [] = omega arith
rows-count rows (x ∷ xs) = omega (arith, rows-count (with_row rows x) xs)

-- one more behind those of a list
one_more : (l : List Row) (x : Row) → with_row (rows_of l) x ≡ rows_of (l ++ (x ∷ []))
unfolding with_row rows_of
one_more l x = go (ltb (length l) 6) refl
  where
    many : length l + 1 ≡ length (l ++ (x ∷ []))
    many = omega (arith, length-append l (x ∷ []))

    go : (b : Bool) → ltb (length l) 6 ≡ b
        → make_rows (cond b (set (sets blank_rows 0 (take shown l)) (length l) x) (sets blank_rows 0 (take shown l))) (length l + 1) ≡ make_rows (sets blank_rows 0 (take shown (l ++ (x ∷ [])))) (length (l ++ (x ∷ [])))
    go true e =
        let few : length l < 6 = ltb-true (length l) 6 e in
        let whole = take_all 6 l (omega arith) in
        let longer = take_all 6 (l ++ (x ∷ [])) (omega (arith, many)) in
        let stored : set (sets blank_rows 0 l) (length l) x ≡ sets blank_rows 0 (l ++ (x ∷ [])) =
        ap (λ (k : ℕ). set (sets blank_rows 0 l) k x) (sym (zero-add (length l))) ∙ sets_append blank_rows 0 l (x ∷ []) in
        let each : set (sets blank_rows 0 (take shown l)) (length l) x ≡ sets blank_rows 0 (take shown (l ++ (x ∷ []))) =
        ap (λ (k : List Row). set (sets blank_rows 0 k) (length l) x) whole ∙ stored ∙ ap (sets blank_rows 0) (sym longer) in
        λ i. make_rows (each i) (many i)
    go false e =
        let full : 6 ≤ length l = ltb-false (length l) 6 e in
        let same : sets blank_rows 0 (take shown l) ≡ sets blank_rows 0 (take shown (l ++ (x ∷ []))) = ap (sets blank_rows 0) (sym (take-append-le 6 l (x ∷ []) full)) in
        λ i. make_rows (same i) (many i)

-- and several
pub rows_more : (l xs : List Row) → with_rows (rows_of l) xs ≡ rows_of (l ++ xs)
unfolding with_rows
rows_more l [] = ap rows_of (sym (append-nil l))
rows_more l (x ∷ xs) =
    ap (λ (rows : Rows). with_rows rows xs) (one_more l x) ∙ rows_more (l ++ (x ∷ [])) xs ∙ ap rows_of (append_assoc l (x ∷ []) xs)

-- the hands of a seat, place by place
module _ (passes : SeatHand → Bool) (seat : ℕ) (places : List SeatHand) (rows : Rows) where
  abbrev pub places_to : ℕ → Rows
  places_to k = with_rows rows (place_rows passes seat 0 (take k places))

  next_place : (k : ℕ) → k < length places → (more : List Row) → cond (passes (get_or places k missing_place)) (row seat k (get_or places k missing_place) ∷ []) [] ≡ more
      → with_rows (places_to k) more ≡ places_to (k + 1)
  unfolding place_rows
  next_place k h more e =
      ap (with_rows (places_to k)) (sym e)
      ∙ sym (rows_append rows (place_rows passes seat 0 (take k places)) (cond (passes (get_or places k missing_place)) (row seat k (get_or places k missing_place) ∷ []) []))
      ∙ ap (with_rows rows) (sym (numbered_next (place_rows passes seat) (λ p x. cond (passes x) (row seat p x ∷ []) []) (λ p. refl) (λ p x xs. refl) k places missing_place h))

  pub place_more : (k : ℕ) (next : Rows) → k < length places → passes (get_or places k missing_place) ≡ true → next ≡ places_to k → with_row next (row seat k (get_or places k missing_place)) ≡ places_to (k + 1)
  unfolding with_rows
  place_more k next h passed e =
      ap (λ (x : Rows). with_row x (row seat k (get_or places k missing_place))) e
      ∙ next_place k h (row seat k (get_or places k missing_place) ∷ []) (ap (λ (b : Bool). cond b (row seat k (get_or places k missing_place) ∷ []) []) passed)

  pub place_same : (k : ℕ) (next : Rows) → k < length places → passes (get_or places k missing_place) ≡ false → next ≡ places_to k → next ≡ places_to (k + 1)
  unfolding with_rows
  place_same k next h passed e = e ∙ next_place k h [] (ap (λ (b : Bool). cond b (row seat k (get_or places k missing_place) ∷ []) []) passed)

-- the seats one after the other
module _ (waiting : Bool) (o : Options) (card : ℕ) (seats : List Seat) (rows : Rows) where
  abbrev pub seats_to : ℕ → Rows
  seats_to k = with_rows rows (rows_from waiting o card 0 (take k seats))

  pub next-seat : (k : ℕ) (next : Rows) → k < length seats → next ≡ seats_to k → with_rows next (seat_rows waiting o card k (get_or seats k missing_seat)) ≡ seats_to (k + 1)
  unfolding rows_from
  next-seat k next h e =
      ap (λ (x : Rows). with_rows x (seat_rows waiting o card k (get_or seats k missing_seat))) e
      ∙ sym (rows_append rows (rows_from waiting o card 0 (take k seats)) (seat_rows waiting o card k (get_or seats k missing_seat)))
      ∙ ap (with_rows rows) (sym (numbered_next (rows_from waiting o card) (seat_rows waiting o card) (λ p. refl) (λ p x xs. refl) k seats missing_seat h))

-- the whole: those that wait, then the others; none on a broken table
module _ (t : Table) where
  pub all_gathered : broken t ≡ false → (none waiting all : Rows) → none ≡ rows_of [] → waiting ≡ with_rows none (table_rows true t) → all ≡ with_rows waiting (table_rows false t) → all ≡ rows_of (all_rows t)
  unfolding all_rows
  all_gathered whole none waiting all a b c =
      c
      ∙ ap (λ (r : Rows). with_rows r (table_rows false t)) (b ∙ ap (λ (r : Rows). with_rows r (table_rows true t)) a ∙ rows_more [] (table_rows true t))
      ∙ rows_more (table_rows true t) (table_rows false t)
      ∙ ap (λ (d : Bool). rows_of (cond d [] (table_rows true t ++ table_rows false t))) (sym whole)

  pub held_all : (seats : List SeatLights) (rows : Rows) → seats ≡ all_lights t → rows ≡ rows_of (all_rows t) → held_screen seats rows ≡ screen_of t
  unfolding screen_of rows_of
  held_all seats rows a b = ap (λ (s : List SeatLights). held_screen s rows) a ∙ ap (held_screen (all_lights t)) b

  pub held_none : broken t ≡ true → (rows : Rows) → rows ≡ rows_of [] → rows ≡ rows_of (all_rows t)
  unfolding all_rows
  held_none damaged rows e = e ∙ ap (λ (d : Bool). rows_of (cond d [] (table_rows true t ++ table_rows false t))) (sym damaged)
