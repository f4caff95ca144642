-- The guests of a seat (request 2.8). A guest is the seat with that guest's money, and what is asked of a guest reads nothing of the others: so a change of one
-- guest's money changes what is asked of that guest alone.
use mathlib.Core.Path.{◌≡◌, refl, sym, ◌∙◌, ap}
use mathlib.Core.Bool.{Bool, true, false, ◌||◌}
use mathlib.Core.List.{List, [], ◌∷◌}
use Prim.Native.Nat.{ℕ, zero, suc, ◌+◌, ◌-◌, ◌≤◌, ◌<◌}
use native.Mathlib.Decide.{ℕ_discrete}
use native.Mathlib.Omega.{arith}
use lib.ListN.{length, get_or, set, length-set, get_or-eq_default}
use lib.Seq.{get_or-set_same, get_or-set_other}
use borrow.Author.Tests.{ne_eqb}
use Rattle.lists.proofs.Tests.{and_at, or_eq_false}
use Rattle.lists.proofs.Places.{view_map}
use Rattle.options.specs.declared.Options.{Options}
use Rattle.rules.specs.declared.seat_hand.SeatHands.{SeatHands}
use Rattle.table.specs.declared.Money.{Money}
use Rattle.table.specs.declared.Seat.{Seat}
use Rattle.table.specs.Guest.{missing_money}
use Rattle.table.specs.Seat.{make_seat, missing_seat, with_money, guest_at, with_guest, map_guests, over_guests, any_guest, each_guest, laid, prizes}
use Rattle.table.specs.Shape.{ShapedSeat}

-- the seated guest is the seat itself, the others have their own money, and so each guest is the seat with other money
pub guest-seated : (s : Seat) → guest_at s 0 ≡ s
unfolding guest_at
guest-seated s = refl

guest-beside : (s : Seat) (p : ℕ) → guest_at s (suc p) ≡ with_money s (get_or s.others p missing_money)
unfolding guest_at
guest-beside s p = let place : suc p - 1 ≡ p = omega arith in simp (ne_eqb (suc p) 0 (λ e. omega arith), place)

money_beside : (s : Seat) (p : ℕ) → (guest_at s (suc p)).money ≡ get_or s.others p missing_money
money_beside s p = ap (λ (x : Seat). x.money) (guest-beside s p)

pub guest-is : (s : Seat) (p : ℕ) → guest_at s p ≡ with_money s (guest_at s p).money
guest-is s zero = rw (guest-seated s)
guest-is s (suc p) = guest-beside s p ∙ ap (with_money s) (sym (money_beside s p))

pub guest-hands : (s : Seat) (p : ℕ) → (guest_at s p).hands ≡ s.hands
guest-hands s p = ap (λ (x : Seat). x.hands) (guest-is s p)

pub guest-first : (s : Seat) (p : ℕ) → (guest_at s p).first ≡ s.first
guest-first s p = ap (λ (x : Seat). x.first) (guest-is s p)

-- seats with the same money have the same guests' money, whatever their hands
pub guest_money : (r s : Seat) → r.money ≡ s.money → r.others ≡ s.others → (p : ℕ) → (guest_at r p).money ≡ (guest_at s p).money
guest_money r s money others zero = rw (guest-seated r, guest-seated s) money
guest_money r s money others (suc p) = money_beside r p ∙ ap (λ (ms : List Money). get_or ms p missing_money) others ∙ sym (money_beside s p)

-- a position that the seat does not have holds nothing
pub guest_beyond : (s : Seat) (p : ℕ) → length s.others < p → (guest_at s p).money ≡ missing_money
guest_beyond s zero h = absurd (omega arith)
guest_beyond s (suc p) h = money_beside s p ∙ get_or-eq_default s.others missing_money {n = p} (omega arith)

-- and neither does a position of a seat that the table does not have
pub guest_missing : (p : ℕ) → (guest_at missing_seat p).money ≡ missing_money
guest_missing zero = rw (guest-seated missing_seat)
guest_missing (suc p) = guest_beyond missing_seat (suc p) (omega arith)

-- all guests' money changed, where what is missing stays so
pub guest_mapped : (f : Money → Money) (s : Seat) (p : ℕ) → f missing_money ≡ missing_money → (guest_at (map_guests f s) p).money ≡ f (guest_at s p).money
guest_mapped f s zero e = rw (guest-seated s, guest-seated (map_guests f s))
guest_mapped f s (suc p) e = money_beside (map_guests f s) p ∙ view_map (λ (m : Money). m) f s.others p missing_money e ∙ ap f (sym (money_beside s p))

-- one guest's money changed, that of the seated guest or of another
put-seated : (s : Seat) (m : Money) → with_guest s 0 m ≡ with_money s m
unfolding with_guest
put-seated s m = refl

put-beside : (s : Seat) (p : ℕ) (m : Money) → with_guest s (suc p) m ≡ make_seat s.money (set s.others p m) s.hands s.first
unfolding with_guest
put-beside s p m = let place : suc p - 1 ≡ p = omega arith in simp (ne_eqb (suc p) 0 (λ e. omega arith), place)

-- the seat's hands and first cards stay
pub put-hands : (s : Seat) (p : ℕ) (m : Money) → (with_guest s p m).hands ≡ s.hands
put-hands s zero m = ap (λ (x : Seat). x.hands) (put-seated s m)
put-hands s (suc p) m = ap (λ (x : Seat). x.hands) (put-beside s p m)

pub put_first : (s : Seat) (p : ℕ) (m : Money) → (with_guest s p m).first ≡ s.first
put_first s zero m = ap (λ (x : Seat). x.first) (put-seated s m)
put_first s (suc p) m = ap (λ (x : Seat). x.first) (put-beside s p m)

put-others : (s : Seat) (p : ℕ) (m : Money) → length (with_guest s p m).others ≡ length s.others
put-others s zero m = ap (λ (x : Seat). length x.others) (put-seated s m)
put-others s (suc p) m = ap (λ (x : Seat). length x.others) (put-beside s p m) ∙ length-set s.others p m

-- that guest has it, and every other what it had
pub put_here : (s : Seat) (p : ℕ) (m : Money) → length s.others ≡ 2 → p < 3 → (guest_at (with_guest s p m) p).money ≡ m
put_here s zero m two h = ap (λ (x : Seat). x.money) (guest-seated (with_guest s 0 m) ∙ put-seated s m)
put_here s (suc p) m two h =
    money_beside (with_guest s (suc p) m) p
    ∙ ap (λ (x : Seat). get_or x.others p missing_money) (put-beside s p m)
    ∙ get_or-set_same s.others p m missing_money (omega arith)

pub put_other : (s : Seat) (p q : ℕ) (m : Money) → (q ≡ p → ⊥) → (guest_at (with_guest s p m) q).money ≡ (guest_at s q).money
put_other s zero zero m other = absurd (other refl)
put_other s zero (suc q) m other =
    money_beside (with_guest s 0 m) q ∙ ap (λ (x : Seat). get_or x.others q missing_money) (put-seated s m) ∙ sym (money_beside s q)
put_other s (suc p) zero m other = ap (λ (x : Seat). x.money) (guest-seated (with_guest s (suc p) m) ∙ put-beside s p m) ∙ sym (ap (λ (x : Seat). x.money) (guest-seated s))
put_other s (suc p) (suc q) m other =
    money_beside (with_guest s (suc p) m) q
    ∙ ap (λ (x : Seat). get_or x.others q missing_money) (put-beside s p m)
    ∙ get_or-set_other s.others p q m missing_money (λ same. other (ap suc same))
    ∙ sym (money_beside s q)

-- What is asked of a guest reads nothing of the others.
module _ {A : Type 0} where
  abbrev pub OfGuest : (Seat → A) → Type 0
  OfGuest f = (s : Seat) (others : List Money) → f (make_seat s.money others s.hands s.first) ≡ f s

  -- so it is the same of two that have the same money, hands and first cards
  pub alike : (f : Seat → A) → OfGuest f → (r s : Seat) → r.money ≡ s.money → r.hands ≡ s.hands → r.first ≡ s.first → f r ≡ f s
  alike f of r s money hands first = sym (of r []) ∙ (λ i. f (make_seat (money i) [] (hands i) (first i))) ∙ of s []

  pub at-put : (f : Seat → A) → OfGuest f → (s : Seat) (p : ℕ) (m : Money) → length s.others ≡ 2 → p < 3 → f (guest_at (with_guest s p m) p) ≡ f (with_money s m)
  at-put f of s p m two h =
      alike f of (guest_at (with_guest s p m) p) (with_money s m) (put_here s p m two h) (guest-hands (with_guest s p m) p ∙ put-hands s p m) (guest-first (with_guest s p m) p ∙ put_first s p m)

  pub at_other : (f : Seat → A) → OfGuest f → (s : Seat) (p q : ℕ) (m : Money) → (q ≡ p → ⊥) → f (guest_at (with_guest s p m) q) ≡ f (guest_at s q)
  at_other f of s p q m other =
      alike f of (guest_at (with_guest s p m) q) (guest_at s q) (put_other s p q m other) (guest-hands (with_guest s p m) q ∙ put-hands s p m ∙ sym (guest-hands s q)) (guest-first (with_guest s p m) q ∙ put_first s p m ∙ sym (guest-first s q))

pub of_laid : OfGuest laid
unfolding laid
of_laid s others = refl

pub of_prizes : (o : Options) → OfGuest (prizes o)
unfolding prizes
of_prizes o s others = refl

-- a sum over the guests changes by that guest's part
pub over_put : (f : Seat → ℕ) → OfGuest f → (s : Seat) (p : ℕ) (m : Money) → length s.others ≡ 2 → p < 3 → over_guests f (with_guest s p m) + f (guest_at s p) ≡ over_guests f s + f (with_money s m)
over_put f of s p m two h = go p h
  where
    here : (p : ℕ) → p < 3 → f (guest_at (with_guest s p m) p) ≡ f (with_money s m)
    here p h = at-put f of s p m two h

    kept : (p q : ℕ) → (q ≡ p → ⊥) → f (guest_at (with_guest s p m) q) ≡ f (guest_at s q)
    kept p q other = at_other f of s p q m other

    go : (p : ℕ) → p < 3 → over_guests f (with_guest s p m) + f (guest_at s p) ≡ over_guests f s + f (with_money s m)
    go zero h = omega (arith, here 0 (omega arith), kept 0 1 (λ e. omega arith), kept 0 2 (λ e. omega arith))
    go (suc zero) h = omega (arith, here 1 (omega arith), kept 1 0 (λ e. omega arith), kept 1 2 (λ e. omega arith))
    go (suc (suc zero)) h = omega (arith, here 2 (omega arith), kept 2 0 (λ e. omega arith), kept 2 1 (λ e. omega arith))
    go (suc (suc (suc p))) h = absurd (omega arith)

-- a guest's part is within the sum
pub over_has : (f : Seat → ℕ) (s : Seat) (p : ℕ) → p < 3 → f (guest_at s p) ≤ over_guests f s
over_has f s zero h = omega arith
over_has f s (suc zero) h = omega arith
over_has f s (suc (suc zero)) h = omega arith
over_has f s (suc (suc (suc p))) h = absurd (omega arith)

-- what each guest passes, the one in a position passes, and back; and so what none passes
pub each_guest_lem : (f : Seat → Bool) (s : Seat) → each_guest f s ≡ true → (p : ℕ) → p < 3 → f (guest_at s p) ≡ true
each_guest_lem f s e p h = go p h
  where
    test : (k : ℕ) → get_or (f (guest_at s 0) ∷ f (guest_at s 1) ∷ f (guest_at s 2) ∷ []) k true ≡ true
    test = and_at (f (guest_at s 0) ∷ f (guest_at s 1) ∷ f (guest_at s 2) ∷ []) e

    go : (p : ℕ) → p < 3 → f (guest_at s p) ≡ true
    go zero h = test 0
    go (suc zero) h = test 1
    go (suc (suc zero)) h = test 2
    go (suc (suc (suc p))) h = absurd (omega arith)

pub guest-each : (f : Seat → Bool) (s : Seat) → ((p : ℕ) → p < 3 → f (guest_at s p) ≡ true) → each_guest f s ≡ true
guest-each f s pass = simp (pass 0 (omega arith), pass 1 (omega arith), pass 2 (omega arith))

pub no_guest : (f : Seat → Bool) (s : Seat) → any_guest f s ≡ false → (p : ℕ) → p < 3 → f (guest_at s p) ≡ false
no_guest f s e p h = go p h
  where
    first_two : (f (guest_at s 0) || f (guest_at s 1) ≡ false) × (f (guest_at s 2) ≡ false)
    first_two = or_eq_false (f (guest_at s 0) || f (guest_at s 1)) (f (guest_at s 2)) e

    go : (p : ℕ) → p < 3 → f (guest_at s p) ≡ false
    go zero h = (or_eq_false (f (guest_at s 0)) (f (guest_at s 1)) first_two.0).0
    go (suc zero) h = (or_eq_false (f (guest_at s 0)) (f (guest_at s 1)) first_two.0).1
    go (suc (suc zero)) h = first_two.1
    go (suc (suc (suc p))) h = absurd (omega arith)

pub guest-none : (f : Seat → Bool) (s : Seat) → ((p : ℕ) → p < 3 → f (guest_at s p) ≡ false) → any_guest f s ≡ false
guest-none f s fail = simp (fail 0 (omega arith), fail 1 (omega arith), fail 2 (omega arith))

-- the seat's arrays stay as long as they are
pub shaped_put : (s : Seat) (p : ℕ) (m : Money) → ShapedSeat s → p < 3 → length m.sides ≡ 4 → ShapedSeat (with_guest s p m)
shaped_put s p m shaped h four =
    record {
      four_places = ap (λ (x : SeatHands). length x.places) (put-hands s p m) ∙ shaped.four_places;
      two_others = put-others s p m ∙ shaped.two_others;
      four_sides = λ q l. go q l (ℕ_discrete q p);
      three_first = ap length (put_first s p m) ∙ shaped.three_first;
      twenty_cards = rw (put-hands s p m) shaped.twenty_cards;
    }
  where
    go : (q : ℕ) → q < 3 → Dec (q ≡ p) → length (guest_at (with_guest s p m) q).money.sides ≡ 4
    go q l (yes same) = rw (same, put_here s p m shaped.two_others h) four
    go q l (no other) = rw (put_other s p q m other) (shaped.four_sides q l)
