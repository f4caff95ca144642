-- The first row is the turn's: the first waiting hand of the first seat that has one.
use mathlib.Core.Path.{◌≡◌, refl, sym, ◌∙◌, ap}
use mathlib.Core.Bool.{Bool, true, false, cond, true≢false}
use mathlib.Core.List.{List, [], ◌∷◌, ◌++◌, map, append_assoc}
use Prim.Native.Nat.{ℕ, suc, ◌+◌}
use native.Mathlib.Nat.{add-zero, zero-add}
use native.Mathlib.Omega.{arith}
use lib.ListN.{length, take, get_or}
use Rattle.lists.specs.Tests.{any_of, first_place}
use Rattle.lists.proofs.Tests.{or_eq_false}
use Rattle.options.specs.declared.Options.{Options}
use Rattle.rules.specs.declared.seat_hand.SeatHand.{SeatHand}
use Rattle.rules.specs.SeatHand.{Played, played_of}
use Rattle.rules.specs.Waits.{waits}
use Rattle.rules.specs.Turn.{seat_waits, waiting_place}
use Rattle.table.specs.declared.Seat.{Seat}
use Rattle.table.specs.declared.Table.{Table}
use Rattle.table.specs.Seat.{hands}
use Rattle.table.specs.Table.{up}
use Rattle.state.specs.Turn.{seat_in_turn}
use Rattle.dealer_screen.specs.declared.rows.Row.{Row}
use Rattle.dealer_screen.specs.Rows.{no_row, place_rows, seat_rows, rows_from, table_rows, all_rows}
use Rattle.dealer_screen.specs.Laws.{TurnFirst}

-- the first of these rows is that of a seat and a place
record Begins (rows : List Row) (seat place : ℕ) : Type 0 where
  seat_is : (get_or rows 0 no_row).seat ≡ seat
  place_is : (get_or rows 0 no_row).place ≡ place

module _ (f : Played → Bool) (seat : ℕ) where
  no_place : (p : ℕ) (hs : List SeatHand) → any_of f (map played_of hs) ≡ false → place_rows (λ h. f (played_of h)) seat p hs ≡ []
  unfolding place_rows any_of
  no_place p [] e = refl
  no_place p (h ∷ hs) e =
      let (here, later) = or_eq_false (f (played_of h)) (any_of f (map played_of hs)) e in
      rw here (no_place (suc p) hs later)

  first-place : (p : ℕ) (hs : List SeatHand) (rest : List Row) → any_of f (map played_of hs) ≡ true → Begins (place_rows (λ h. f (played_of h)) seat p hs ++ rest) seat (p + first_place f (map played_of hs))
  unfolding place_rows any_of first_place
  first-place p [] rest e = absurd (true≢false (sym e))
  first-place p (h ∷ hs) rest e = go (f (played_of h)) refl (first-place (suc p) hs rest)
    where
      go : (b : Bool) → f (played_of h) ≡ b → (any_of f (map played_of hs) ≡ true → Begins (place_rows (λ h. f (played_of h)) seat (suc p) hs ++ rest) seat (suc p + first_place f (map played_of hs)))
          → Begins (place_rows (λ h. f (played_of h)) seat p (h ∷ hs) ++ rest) seat (p + first_place f (map played_of (h ∷ hs)))
      go true same later = rw same (record { seat_is = refl; place_is = omega arith })
      go false same later =
          let some : any_of f (map played_of hs) ≡ true = rw same at e in
          let behind = later some in
          rw same (record { seat_is = behind.seat_is; place_is = behind.place_is ∙ omega arith })

module _ (o : Options) (card : ℕ) where
  first-seat : (i : ℕ) (seats : List Seat) (rest : List Row) → any_of (seat_waits o card) (map hands seats) ≡ true
      → Begins (rows_from true o card i seats ++ rest) (i + first_place (seat_waits o card) (map hands seats)) (waiting_place o card (get_or (map hands seats) (first_place (seat_waits o card) (map hands seats)) []))
  unfolding rows_from any_of first_place
  first-seat i [] rest e = absurd (true≢false (sym e))
  first-seat i (s ∷ ss) rest e = go (seat_waits o card (hands s)) refl (first-seat (suc i) ss rest)
    where
      go : (b : Bool) → seat_waits o card (hands s) ≡ b
          → (any_of (seat_waits o card) (map hands ss) ≡ true
          → Begins (rows_from true o card (suc i) ss ++ rest) (suc i + first_place (seat_waits o card) (map hands ss)) (waiting_place o card (get_or (map hands ss) (first_place (seat_waits o card) (map hands ss)) [])))
          → Begins (rows_from true o card i (s ∷ ss) ++ rest) (i + first_place (seat_waits o card) (map hands (s ∷ ss))) (waiting_place o card (get_or (map hands (s ∷ ss)) (first_place (seat_waits o card) (map hands (s ∷ ss))) []))
      go true same later =
          let own = take s.hands.many s.hands.places in
          let here = first-place (waits o card (length (hands s))) i 0 own (rows_from true o card (suc i) ss ++ rest) same in
          let rows = append_assoc (seat_rows true o card i s) (rows_from true o card (suc i) ss) rest in
          rw same
          (record {
            seat_is = ap (λ (l : List Row). (get_or l 0 no_row).seat) rows ∙ here.seat_is ∙ sym (add-zero i);
            place_is = ap (λ (l : List Row). (get_or l 0 no_row).place) rows ∙ here.place_is ∙ zero-add (waiting_place o card (hands s));
          })
      go false same later =
          let own = take s.hands.many s.hands.places in
          let none = no_place (waits o card (length (hands s))) i 0 own same in
          let rows = ap (λ (l : List Row). l ++ rows_from true o card (suc i) ss ++ rest) none in
          let some : any_of (seat_waits o card) (map hands ss) ≡ true = rw same at e in
          let behind = later some in
          let moved : suc i + first_place (seat_waits o card) (map hands ss) ≡ i + suc (first_place (seat_waits o card) (map hands ss)) = omega arith in
          rw same
          (record {
            seat_is = ap (λ (l : List Row). (get_or l 0 no_row).seat) rows ∙ behind.seat_is ∙ moved;
            place_is = ap (λ (l : List Row). (get_or l 0 no_row).place) rows ∙ behind.place_is;
          })

pub turn-first : (t : Table) → TurnFirst t
unfolding all_rows
turn-first t whole some =
    let begins = first-seat t.options (up t) 0 t.seats (table_rows false t) some in
    let rows : all_rows t ≡ table_rows true t ++ table_rows false t = ap (λ (d : Bool). cond d [] (table_rows true t ++ table_rows false t)) whole in
    record {
      seat = ap (λ (l : List Row). (get_or l 0 no_row).seat) rows ∙ begins.seat_is ∙ zero-add (seat_in_turn t);
      place = ap (λ (l : List Row). (get_or l 0 no_row).place) rows ∙ begins.place_is;
    }
