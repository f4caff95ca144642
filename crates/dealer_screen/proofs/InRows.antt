-- Every hand stands in exactly one row: the seat's number parts the seats' rows, the place a seat's, and a hand waits or it does not. The first row is the turn's: the first waiting hand
-- of the first seat that has one.
use mathlib.Core.Path.{◌≡◌, refl, sym, ◌∙◌, ap}
use mathlib.Core.Bool.{Bool, true, false, cond, not, and-false}
use mathlib.Core.List.{List, [], ◌∷◌, ◌++◌}
use Prim.Native.Nat.{ℕ, suc, ◌≤◌, ◌<◌}
use native.Mathlib.Decide.{dec_le}
use native.Mathlib.Omega.{arith}
use lib.Dec.{ltb}
use lib.ListN.{length, take, get_or, length-map, length-take, get_or-eq_default}
use lib.Seq.{get_or-take}
use borrow.Author.Tests.{eq-eqb, ne_eqb, ltb-true, lt-ltb, le-ltb}
use Rattle.lists.specs.Tests.{those}
use Rattle.lists.proofs.Tests.{cond_same}
use Rattle.lists.proofs.Numbered.{those-append, those_numbered}
use Rattle.options.specs.declared.Options.{Options}
use Rattle.rules.specs.declared.seat_hand.SeatHand.{SeatHand}
use Rattle.rules.specs.SeatHand.{played_of}
use Rattle.table.specs.declared.Seat.{Seat}
use Rattle.table.specs.declared.Table.{Table}
use Rattle.table.specs.Seat.{missing_place, missing_seat, hands}
use Rattle.table.specs.Table.{seat_at, up}
use Rattle.dealer_screen.specs.declared.rows.Row.{Row}
use Rattle.dealer_screen.specs.Rows.{row, place_rows, hand_waits, seat_rows, rows_from, table_rows, all_rows}
use Rattle.dealer_screen.specs.Laws.{names, EachOnce}

-- the rows of a seat that name a place of it
module _ (passes : SeatHand → Bool) (seat place : ℕ) where
  one-row : (b : Bool) (r : Row) → those (names seat place) (cond b (r ∷ []) []) ≡ cond (names seat place r) (cond b (r ∷ []) []) []
  unfolding those
  one-row true r = go (names seat place r)
    where
      go : (c : Bool) → cond c (r ∷ []) [] ≡ cond c (r ∷ []) []
      go c = refl
  one-row false r = sym (cond_same (names seat place r) [])

  own-places : (hs : List SeatHand) → those (names seat place) (place_rows passes seat 0 hs)
      ≡ cond (ltb place (length hs)) (cond (passes (get_or hs place missing_place)) (row seat place (get_or hs place missing_place) ∷ []) []) []
  unfolding place_rows
  own-places hs =
      those_numbered (place_rows passes seat) (λ p x. cond (passes x) (row seat p x ∷ []) []) (λ p. refl) (λ p x xs. refl) (names seat place) place
      (λ p x apart. one-row (passes x) (row seat p x) ∙ simp (ne_eqb place p (λ e. apart (sym e)), and-false)) hs missing_place
      ∙ simp (one-row, eq-eqb seat seat refl, eq-eqb place place refl)

  -- another seat's rows do not name this one
  other-places : (j p : ℕ) (hs : List SeatHand) → (j ≡ seat → ⊥) → those (names seat place) (place_rows passes j p hs) ≡ []
  unfolding place_rows those
  other-places j p [] apart = refl
  other-places j p (h ∷ hs) apart =
      those-append (names seat place) (cond (passes h) (row j p h ∷ []) []) (place_rows passes j (suc p) hs)
      ∙ rw (one-row (passes h) (row j p h), other-places j (suc p) hs apart, ne_eqb seat j (λ e. apart (sym e))) refl

module _ (waiting : Bool) (o : Options) (card : ℕ) (seat place : ℕ) where
  abbrev wants : Seat → SeatHand → Bool
  wants s h = cond waiting (hand_waits o card s h) (not (hand_waits o card s h))

  abbrev hand_of : Seat → SeatHand
  hand_of s = get_or s.hands.places place missing_place

  own_seat : (s : Seat) → those (names seat place) (seat_rows waiting o card seat s) ≡ cond (ltb place (length (hands s))) (cond (wants s (hand_of s)) (row seat place (hand_of s) ∷ []) []) []
  own_seat s =
      let used = take s.hands.many s.hands.places in
      own-places (wants s) seat place used
      ∙ go (ltb place (length used)) refl
      ∙ ap (λ (n : ℕ). cond (ltb place n) (cond (wants s (hand_of s)) (row seat place (hand_of s) ∷ []) []) []) (sym (length-map used played_of))
    where
      go : (b : Bool) → ltb place (length (take s.hands.many s.hands.places)) ≡ b
          → cond b (cond (wants s (get_or (take s.hands.many s.hands.places) place missing_place)) (row seat place (get_or (take s.hands.many s.hands.places) place missing_place) ∷ []) []) []
          ≡ cond b (cond (wants s (hand_of s)) (row seat place (hand_of s) ∷ []) []) []
      go true e =
          let inside : place < s.hands.many = omega (arith, ltb-true place _ e, length-take s.hands.many s.hands.places) in
          ap (λ (h : SeatHand). cond (wants s h) (row seat place h ∷ []) []) (get_or-take s.hands.many s.hands.places place missing_place inside)
      go false e = refl

  of-table : (seats : List Seat) → those (names seat place) (rows_from waiting o card 0 seats)
      ≡ cond (ltb seat (length seats)) (cond (ltb place (length (hands (get_or seats seat missing_seat)))) (cond (wants (get_or seats seat missing_seat) (hand_of (get_or seats seat missing_seat))) (row seat place (hand_of (get_or seats seat missing_seat)) ∷ []) []) []) []
  unfolding rows_from
  of-table seats =
      those_numbered (rows_from waiting o card) (seat_rows waiting o card) (λ p. refl) (λ p x xs. refl) (names seat place) seat
      (λ j s apart. other-places (wants s) seat place j 0 (take s.hands.many s.hands.places) apart) seats missing_seat
      ∙ ap (λ (l : List Row). cond (ltb seat (length seats)) l []) (own_seat (get_or seats seat missing_seat))

-- a hand waits or it does not
both : (a b w : Bool) (r : Row) → cond a (cond b (cond w (r ∷ []) []) []) [] ++ cond a (cond b (cond (not w) (r ∷ []) []) []) [] ≡ cond a (cond b (r ∷ []) []) []
both true true true r = refl
both true true false r = refl
both true false w r = refl
both false b w r = refl

-- beyond the seats there is no hand
beyond : (seats : List Seat) (seat place : ℕ) (r : Row)
    → cond (ltb seat (length seats)) (cond (ltb place (length (hands (get_or seats seat missing_seat)))) (r ∷ []) []) [] ≡ cond (ltb place (length (hands (get_or seats seat missing_seat)))) (r ∷ []) []
beyond seats seat place r = go (dec_le (length seats) seat)
  where
    go : Dec (length seats ≤ seat)
        → cond (ltb seat (length seats)) (cond (ltb place (length (hands (get_or seats seat missing_seat)))) (r ∷ []) []) [] ≡ cond (ltb place (length (hands (get_or seats seat missing_seat)))) (r ∷ []) []
    go (yes h) = rw (get_or-eq_default seats missing_seat h, le-ltb seat (length seats) h, le-ltb place 0 (omega arith)) refl
    go (no h) = rw (lt-ltb seat (length seats) (omega arith)) refl

pub each_once_lem : (t : Table) → EachOnce t
unfolding all_rows
each_once_lem t whole seat place =
    let o = t.options in
    let s = seat_at t seat in
    let h = get_or s.hands.places place missing_place in
    ap (λ (d : Bool). those (names seat place) (cond d [] (table_rows true t ++ table_rows false t))) whole
    ∙ those-append (names seat place) (table_rows true t) (table_rows false t)
    ∙ rw (of-table true o (up t) seat place t.seats, of-table false o (up t) seat place t.seats)
    (both (ltb seat (length t.seats)) (ltb place (length (hands s))) (hand_waits o (up t) s h) (row seat place h) ∙ beyond t.seats seat place (row seat place h))
