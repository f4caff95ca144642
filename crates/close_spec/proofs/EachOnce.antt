-- Each hand, insurance and side stake of a guest who has staked has exactly one line: the seat's number parts the seats' lines, the position those of its guests,
-- the place a guest's hands, and the kind hands, insurance and side stakes.
use mathlib.Core.Path.{◌≡◌, refl, sym, ◌∙◌, ap}
use mathlib.Core.Bool.{Bool, true, false, cond, ◌&&◌, and_comm, and-true, and-false}
use mathlib.Core.List.{List, [], ◌∷◌, ◌++◌, map, append-nil, map-append}
use Prim.Native.Nat.{ℕ, zero, suc, ◌-◌, ◌≤◌, ◌<◌}
use native.Mathlib.Decide.{dec_le}
use native.Mathlib.Omega.{arith}
use lib.Dec.{leb, ltb, eqb}
use lib.ListN.{length, get_or, get_or-eq_default}
use borrow.Author.Tests.{eq-eqb, ne_eqb, eqb-true, eqb-false, ltb-false, le-ltb, lt-leb}
use Rattle.lists.specs.Tests.{those}
use Rattle.lists.proofs.Tests.{cond_same}
use Rattle.lists.proofs.Numbered.{those-append, those_numbered}
use Rattle.call.specs.PayLine.{PayLine, line}
use Rattle.options.specs.declared.Options.{Options}
use Rattle.payment.specs.declared.bank.Score.{Score}
use Rattle.rules.specs.SeatHand.{Played, played_of}
use Rattle.payment.specs.Pay.{net}
use Rattle.payment.specs.HandPay.{hand_pay}
use Rattle.payment.specs.Insurance.{insurance_pay}
use Rattle.payment.specs.SidePay.{side_pay}
use Rattle.payment.specs.Bets.{side}
use Rattle.payment.specs.Pays.{Due, due, hand_kind, insurance_kind, side_kind, insurance_pays, hand_pays, side_due, side_pays, pays_of}
use Rattle.table.specs.declared.Money.{Money}
use Rattle.table.specs.declared.Seat.{Seat}
use Rattle.table.specs.Seat.{missing_place, missing_seat, guest_at, is_staked, stake, insurance, sides, hands, first_cards}
use Rattle.table.proofs.Guests.{guest_missing}
use Rattle.close_spec.specs.PayLines.{guest_pays, line_of, guest_lines, seat_lines, all_lines}
use Rattle.close_spec.specs.EachOnce.{names, due_lines, EachOnce}

-- the tests in the order of the definition
tests : (a b c : Bool) → a && (b && c) ≡ c && b && a
tests true b c = and_comm b c ∙ sym (and-true (c && b))
tests false b c = sym (and-false (c && b))

-- a hand, an insurance and a side stake are of different kinds
parted : (hand insured beside few first some : Bool) (h i : PayLine) (side : List PayLine) → (hand ≡ true → (insured ≡ false) × (beside ≡ false)) → (insured ≡ true → beside ≡ false)
    → cond (some && (first && insured)) (i ∷ []) [] ++ cond beside side [] ++ cond few (cond hand (h ∷ []) []) []
    ≡ cond (hand && few) (h ∷ []) (cond (insured && first && some) (i ∷ []) (cond beside side []))
parted true insured beside few first some h i side apart other = simp ((apart refl).0, (apart refl).1, and-false)
parted false true beside few first some h i side apart other = rw (tests some first true, cond_same few) (simp (other refl, append-nil))
parted false false beside few first some h i side apart other = simp (and-false, cond_same, append-nil)

-- of the side stakes the one of the kind that is asked for
module _ (first : Bool) (some : ℕ → Bool) (r : ℕ → PayLine) where
  abbrev of : ℕ → ℕ → List PayLine
  of kind k = cond (some k && (first && eqb kind k)) (r k ∷ []) []

  outside : (kind : ℕ) → (kind ≡ 2 → ⊥) → (kind ≡ 3 → ⊥) → (kind ≡ 4 → ⊥) → (kind ≡ 5 → ⊥) → leb 2 kind && leb kind 5 ≡ false
  outside kind a b c d = go (dec_le 2 kind)
    where
      go : Dec (2 ≤ kind) → leb 2 kind && leb kind 5 ≡ false
      go (yes h) = simp (lt-leb kind 5 (omega arith), and-false)
      go (no h) = simp (lt-leb 2 kind (omega arith))

  picked : (kind : ℕ) → of kind 2 ++ of kind 3 ++ of kind 4 ++ of kind 5 ≡ cond (leb 2 kind && leb kind 5 && first && some kind) (r kind ∷ []) []
  picked kind = go (eqb kind 2) refl (eqb kind 3) refl (eqb kind 4) refl (eqb kind 5) refl
    where
      go : (a : Bool) → eqb kind 2 ≡ a → (b : Bool) → eqb kind 3 ≡ b → (c : Bool) → eqb kind 4 ≡ c → (d : Bool) → eqb kind 5 ≡ d
          → of kind 2 ++ of kind 3 ++ of kind 4 ++ of kind 5 ≡ cond (leb 2 kind && leb kind 5 && first && some kind) (r kind ∷ []) []
      go true p b q c u d v = rw (eqb-true kind 2 p) (simp (and-false, append-nil, tests (some 2) first true))
      go false p true q c u d v = rw (eqb-true kind 3 q) (simp (and-false, append-nil, tests (some 3) first true))
      go false p false q true u d v = rw (eqb-true kind 4 u) (simp (and-false, append-nil, tests (some 4) first true))
      go false p false q false u true v = rw (eqb-true kind 5 v) (simp (and-false, tests (some 5) first true))
      go false p false q false u false v = simp (p, q, u, v, and-false, outside kind (eqb-false kind 2 p) (eqb-false kind 3 q) (eqb-false kind 4 u) (eqb-false kind 5 v))

one_line : (b : Bool) (test : PayLine → Bool) (f : Due → PayLine) (x : Due) → those test (map f (cond b (x ∷ []) [])) ≡ cond (b && test (f x)) (f x ∷ []) []
unfolding those
one_line true test f x = refl
one_line false test f x = refl

module _ (o : Options) (bank : Score) (seat position place kind : ℕ) where
  abbrev asked : PayLine → Bool
  asked = names seat position place kind

  -- a guest's own lines are those due
  own-insurance : (I : ℕ)
      → those asked (map (line_of seat position) (insurance_pays bank I)) ≡ cond (ltb 0 I && (eqb place 0 && eqb kind insurance_kind)) (line seat position 0 insurance_kind (net (insurance_pay bank I)) ∷ []) []
  unfolding insurance_pays
  own-insurance I =
      one_line (ltb 0 I) asked (line_of seat position) (due insurance_kind 0 (insurance_pay bank I)) ∙ rw (eq-eqb seat seat refl, eq-eqb position position refl)

  own-hands : (S : ℕ) (hs : List Played)
      → those asked (map (line_of seat position) (hand_pays o bank S 0 hs))
      ≡ cond (ltb place (length hs)) (cond (eqb kind hand_kind) (line seat position place hand_kind (net (hand_pay o bank S (get_or hs place (played_of missing_place)))) ∷ []) []) []
  unfolding those hand_pays
  own-hands S hs =
      those_numbered (λ p xs. map (line_of seat position) (hand_pays o bank S p xs)) (λ p x. line seat position p hand_kind (net (hand_pay o bank S x)) ∷ []) (λ p. refl) (λ p x xs. refl)
      asked place (λ p x apart. simp (ne_eqb place p (λ e. apart (sym e)), and-false)) hs (played_of missing_place)
      ∙ simp (eq-eqb seat seat refl, eq-eqb position position refl, eq-eqb place place refl)

  -- the side stakes: each by its kind, and the one of the kind that is asked for
  abbrev side_line : List ℕ → List ℕ → ℕ → PayLine
  side_line sides first kind = line seat position 0 kind (net (side_pay (kind - 1) (side sides (kind - 1)) first))

  own-side : (sides first : List ℕ) (k : ℕ)
      → those asked (map (line_of seat position) (side_due k (side sides k) first))
      ≡ cond (ltb 0 (side sides k) && (eqb place 0 && eqb kind (side_kind k))) (line seat position 0 (side_kind k) (net (side_pay k (side sides k) first)) ∷ []) []
  unfolding side_due
  own-side sides first k =
      one_line (ltb 0 (side sides k)) asked (line_of seat position) (due (side_kind k) 0 (side_pay k (side sides k) first)) ∙ rw (eq-eqb seat seat refl, eq-eqb position position refl)

  own-sides : (sides first : List ℕ)
      → those asked (map (line_of seat position) (side_pays sides first))
      ≡ cond (leb (side_kind 1) kind && leb kind (side_kind 4) && eqb place 0 && ltb 0 (side sides (kind - 1))) (side_line sides first kind ∷ []) []
  unfolding side_pays
  own-sides sides first =
      simp (map-append, those-append, own-side sides first 1, own-side sides first 2, own-side sides first 3, own-side sides first 4)
      (picked (eqb place 0) (λ k. ltb 0 (side sides (k - 1))) (side_line sides first) kind)

  own-guest : (s : Seat) → those asked (guest_lines o bank seat position s) ≡ due_lines o bank seat position s place kind
  unfolding guest_lines pays_of due_lines those
  own-guest s = go (is_staked s) refl
    where
      before-sides : kind < 2 → leb (side_kind 1) kind && leb kind (side_kind 4) && eqb place 0 && ltb 0 (side (sides s) (kind - 1)) ≡ false
      before-sides h = simp (lt-leb 2 kind h)

      go : (b : Bool) → is_staked s ≡ b → those asked (guest_lines o bank seat position s) ≡ due_lines o bank seat position s place kind
      go true staked =
          simp (staked, map-append, those-append, own-insurance (insurance s), own-sides (sides s) (first_cards s), own-hands (stake s) (hands s))
          (parted (eqb kind hand_kind) (eqb kind insurance_kind) _ (ltb place (length (hands s))) (eqb place 0) (ltb 0 (insurance s)) _ _ _
          (λ e. (ne_eqb kind insurance_kind (λ f. omega (arith, eqb-true kind hand_kind e)), before-sides (omega (arith, eqb-true kind hand_kind e))))
          (λ e. before-sides (omega (arith, eqb-true kind insurance_kind e))))
      go false unstaked = simp unstaked

  -- another guest's lines do not name this one
  other-lines : (j q : ℕ) (pays : List Due) → eqb seat j && eqb position q ≡ false → those asked (map (line_of j q) pays) ≡ []
  unfolding those
  other-lines j q [] apart = refl
  other-lines j q (d ∷ ds) apart = rw apart (other-lines j q ds apart)

  other_guest : (j q : ℕ) (s : Seat) → eqb seat j && eqb position q ≡ false → those asked (guest_lines o bank j q s) ≡ []
  unfolding guest_lines those
  other_guest j q s apart = go (is_staked s)
    where
      go : (b : Bool) → those asked (cond b (map (line_of j q) (guest_pays o bank s)) []) ≡ []
      go true = other-lines j q (guest_pays o bank s) apart
      go false = refl

  other-position : (j q : ℕ) (s : Seat) → (q ≡ position → ⊥) → those asked (guest_lines o bank j q s) ≡ []
  other-position j q s apart = other_guest j q s (simp (ne_eqb position q (λ e. apart (sym e)), and-false))

  other_seat : (j : ℕ) (s : Seat) → (j ≡ seat → ⊥) → those asked (seat_lines o bank j s) ≡ []
  unfolding seat_lines
  other_seat j s apart =
      let other : (q : ℕ) → eqb seat j && eqb position q ≡ false = λ q. simp (ne_eqb seat j (λ e. apart (sym e))) in
      simp (those-append, other_guest j 0 (guest_at s 0) (other 0), other_guest j 1 (guest_at s 1) (other 1), other_guest j 2 (guest_at s 2) (other 2))

  -- past the seats nothing is due
  none-due : due_lines o bank seat position (guest_at missing_seat position) place kind ≡ []
  unfolding due_lines
  none-due = rw (ap (λ (m : Money). ltb 0 m.stake) (guest_missing position))

-- of a seat's lines those of the guest that is asked for
own_seat : (o : Options) (bank : Score) (seat position place kind : ℕ) (s : Seat)
    → those (names seat position place kind) (seat_lines o bank seat s) ≡ cond (ltb position 3) (due_lines o bank seat position (guest_at s position) place kind) []
unfolding seat_lines
own_seat o bank seat position place kind s = go position
  where
    other : (p q : ℕ) → (q ≡ p → ⊥) → those (names seat p place kind) (guest_lines o bank seat q (guest_at s q)) ≡ []
    other p q apart = other-position o bank seat p place kind seat q (guest_at s q) apart

    go : (p : ℕ) → those (names seat p place kind) (seat_lines o bank seat s) ≡ cond (ltb p 3) (due_lines o bank seat p (guest_at s p) place kind) []
    go zero = simp (those-append, own-guest o bank seat 0 place kind (guest_at s 0), other 0 1 (λ e. omega arith), other 0 2 (λ e. omega arith), append-nil)
    go (suc zero) = simp (those-append, own-guest o bank seat 1 place kind (guest_at s 1), other 1 0 (λ e. omega arith), other 1 2 (λ e. omega arith), append-nil)
    go (suc (suc zero)) = simp (those-append, own-guest o bank seat 2 place kind (guest_at s 2), other 2 0 (λ e. omega arith), other 2 1 (λ e. omega arith))
    go (suc (suc (suc p))) =
        let q = suc (suc (suc p)) in
        simp (those-append, other q 0 (λ e. omega arith), other q 1 (λ e. omega arith), other q 2 (λ e. omega arith), le-ltb q 3 (omega arith))

pub each_once_lem : (o : Options) (bank : Score) (seats : List Seat) → EachOnce o bank seats
unfolding all_lines
each_once_lem o bank seats seat position place kind =
    those_numbered (all_lines o bank) (seat_lines o bank) (λ i. refl) (λ i x xs. refl)
    (names seat position place kind) seat (other_seat o bank seat position place kind) seats missing_seat
    ∙ rw (own_seat o bank seat position place kind (get_or seats seat missing_seat)) (past (ltb seat (length seats)) refl)
  where
    here : List PayLine
    here = cond (ltb position 3) (due_lines o bank seat position (guest_at (get_or seats seat missing_seat) position) place kind) []

    past : (b : Bool) → ltb seat (length seats) ≡ b → cond b here [] ≡ here
    past true e = refl
    past false e =
        rw (get_or-eq_default seats missing_seat (ltb-false seat (length seats) e), none-due o bank seat position place kind) (sym (cond_same (ltb position 3) []))
