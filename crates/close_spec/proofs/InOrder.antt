-- The lines stand from the left: seats' numbers rise, in a seat the positions; for a guest the insurance and the side stakes come before the hands, their kinds rise, and so do the
-- hands' places.
use mathlib.Core.Path.{◌≡◌, refl, ap}
use mathlib.Core.Bool.{Bool, true, false, cond, ◌&&◌, ◌||◌, or-true}
use mathlib.Core.List.{List, [], ◌∷◌, ◌++◌, map, append_assoc, map-append}
use Prim.Native.Nat.{ℕ, suc, ◌≤◌, ◌<◌}
use native.Mathlib.Omega.{arith}
use lib.Dec.{ltb, eqb}
use borrow.Author.Tests.{eq-eqb, ne_eqb, lt-ltb}
use Rattle.lists.specs.Tests.{all_of}
use Rattle.call.specs.PayLine.{PayLine}
use Rattle.options.specs.declared.Options.{Options}
use Rattle.payment.specs.declared.bank.Score.{Score}
use Rattle.payment.specs.declared.pay.Pay.{Pay}
use Rattle.rules.specs.SeatHand.{Played}
use Rattle.payment.specs.HandPay.{hand_pay}
use Rattle.payment.specs.Insurance.{insurance_pay}
use Rattle.payment.specs.SidePay.{side_pay}
use Rattle.payment.specs.Bets.{side}
use Rattle.payment.specs.Pays.{Due, due, hand_kind, insurance_kind, side_kind, insurance_pays, hand_pays, side_due, side_pays, pays_of}
use Rattle.table.specs.declared.Seat.{Seat}
use Rattle.table.specs.Seat.{guest_at, is_staked, stake, insurance, sides, hands, first_cards}
use Rattle.close_spec.specs.PayLines.{guest_pays, line_of, guest_lines, seat_lines, all_lines}
use Rattle.close_spec.specs.InOrder.{before_in_seat, stands_before, in_order, InOrder}

-- what each line of a guest passes, each of a seat, and each of the seats from number i on
pays_pass : (f : PayLine → Bool) (i p : ℕ) (pays : List Due) (rest : List PayLine) → ((d : Due) → f (line_of i p d) ≡ true) → all_of f rest ≡ true
    → all_of f (map (line_of i p) pays ++ rest) ≡ true
unfolding all_of
pays_pass f i p [] rest each e = e
pays_pass f i p (d ∷ ds) rest each e = simp (each d, pays_pass f i p ds rest each e)

module _ (o : Options) (bank : Score) where
  guest-pass : (f : PayLine → Bool) (i p : ℕ) (s : Seat) (rest : List PayLine) → ((d : Due) → f (line_of i p d) ≡ true) → all_of f rest ≡ true
      → all_of f (guest_lines o bank i p s ++ rest) ≡ true
  unfolding guest_lines
  guest-pass f i p s rest each e = go (is_staked s)
    where
      go : (b : Bool) → all_of f (cond b (map (line_of i p) (guest_pays o bank s)) [] ++ rest) ≡ true
      go true = pays_pass f i p (guest_pays o bank s) rest each e
      go false = e

  seats-pass : (f : PayLine → Bool) (i : ℕ) (ss : List Seat) → ((j p : ℕ) (d : Due) → i ≤ j → f (line_of j p d) ≡ true) → all_of f (all_lines o bank i ss) ≡ true
  unfolding all_of all_lines seat_lines
  seats-pass f i [] each = refl
  seats-pass f i (s ∷ ss) each =
      simp append_assoc
      (here 0 _ (here 1 _ (here 2 _ (seats-pass f (suc i) ss (λ j p d h. each j p d (omega arith))))))
    where
      here : (p : ℕ) (rest : List PayLine) → all_of f rest ≡ true → all_of f (guest_lines o bank i p (guest_at s p) ++ rest) ≡ true
      here p rest e = guest-pass f i p (guest_at s p) rest (λ d. each i p d (omega arith)) e

  -- a line stands before those of all later seats, and of all later positions of its seat
  later-seats : (i p : ℕ) (d : Due) (ss : List Seat) → all_of (stands_before (line_of i p d)) (all_lines o bank (suc i) ss) ≡ true
  later-seats i p d ss =
      seats-pass (stands_before (line_of i p d)) (suc i) ss (λ j q e h. ap (λ (b : Bool). b || eqb i j && before_in_seat (line_of i p d) (line_of j q e)) (lt-ltb i j h))

  later-guest : (i p q : ℕ) (d : Due) (s : Seat) (rest : List PayLine) → p < q → all_of (stands_before (line_of i p d)) rest ≡ true
      → all_of (stands_before (line_of i p d)) (guest_lines o bank i q s ++ rest) ≡ true
  later-guest i p q d s rest h e = guest-pass (stands_before (line_of i p d)) i q s rest (λ x. simp (eq-eqb i i refl, lt-ltb p q h, or-true)) e

  -- a guest's lines with the rest, the lines of later guests and seats, behind them: a line before the hands and the rest, the hands, and the lines in front of them
  module _ (i p S : ℕ) (rest : List PayLine) (before : (d : Due) → all_of (stands_before (line_of i p d)) rest ≡ true) (ordered : in_order rest ≡ true) where
    hands-pass : (d : Due) (n : ℕ) (hs : List Played) → ((k : ℕ) (y : Pay) → n ≤ k → stands_before (line_of i p d) (line_of i p (due hand_kind k y)) ≡ true)
        → all_of (stands_before (line_of i p d)) (map (line_of i p) (hand_pays o bank S n hs) ++ rest) ≡ true
    unfolding all_of hand_pays
    hands-pass d n [] each = before d
    hands-pass d n (h ∷ hs) each = simp (each n (hand_pay o bank S h) (omega arith), hands-pass d (suc n) hs (λ k y le. each k y (omega arith)))

    hands-order : (n : ℕ) (hs : List Played) → in_order (map (line_of i p) (hand_pays o bank S n hs) ++ rest) ≡ true
    unfolding in_order hand_pays
    hands-order n [] = ordered
    hands-order n (h ∷ hs) =
        simp (hands-pass (due hand_kind n (hand_pay o bank S h)) (suc n) hs (λ k y le. simp (eq-eqb i i refl, eq-eqb p p refl, lt-ltb n k le, or-true)), hands-order (suc n) hs)

    -- lines that stand in order, all of them behind whatever is for no hand and of a kind below k
    Behind : ℕ → List PayLine → Type 0
    Behind k lines = (in_order lines ≡ true) × ((j : ℕ) (y : Pay) → 0 < j → j < k → all_of (stands_before (line_of i p (due j 0 y))) lines ≡ true)

    -- the hands are, and so is a line of kind k in front of those behind it
    hands-behind : (k : ℕ) (hs : List Played) → Behind k (map (line_of i p) (hand_pays o bank S 0 hs) ++ rest)
    unfolding Behind
    hands-behind k hs =
        (hands-order 0 hs, λ j y some less. hands-pass (due j 0 y) 0 hs (λ m z le. simp (eq-eqb i i refl, eq-eqb p p refl, ne_eqb j 0 (λ none. omega arith), or-true)))

    in-front : (k : ℕ) (b : Bool) (y : Pay) (lines : List PayLine) → 0 < k → Behind (suc k) lines → Behind k (map (line_of i p) (cond b (due k 0 y ∷ []) []) ++ lines)
    unfolding Behind all_of in_order
    in-front k true y lines kind (ord, front) = (
      simp (front k y kind (omega arith), ord),
      λ j z some less.
          simp (eq-eqb i i refl, eq-eqb p p refl, ne_eqb k 0 (λ none. omega arith), ne_eqb j 0 (λ none. omega arith), lt-ltb j k less, front j z some (omega arith), or-true),
    )
    in-front k false y lines kind (ord, front) = (ord, λ j z some less. front j z some (omega arith))

    pays-order : (I : ℕ) (sides first : List ℕ) (hs : List Played)
        → in_order
        (map (line_of i p) (insurance_pays bank I)
        ++ (map (line_of i p) (side_due 1 (side sides 1) first)
        ++ (map (line_of i p) (side_due 2 (side sides 2) first)
        ++ (map (line_of i p) (side_due 3 (side sides 3) first)
        ++ (map (line_of i p) (side_due 4 (side sides 4) first)
        ++ (map (line_of i p) (hand_pays o bank S 0 hs) ++ rest))))))
        ≡ true
    unfolding Behind insurance_pays side_due
    pays-order I sides first hs =
        (in-front insurance_kind (ltb 0 I) (insurance_pay bank I) _ (omega arith)
        (beside 1 _ (omega arith) (beside 2 _ (omega arith) (beside 3 _ (omega arith) (beside 4 _ (omega arith) (hands-behind 6 hs)))))).0
      where
        beside : (k : ℕ) (lines : List PayLine) → 0 < k → Behind (suc (side_kind k)) lines → Behind (side_kind k) (map (line_of i p) (side_due k (side sides k) first) ++ lines)
        beside k lines kind behind = in-front (side_kind k) (ltb 0 (side sides k)) (side_pay k (side sides k) first) lines (omega arith) behind

  guest-order : (i p : ℕ) (s : Seat) (rest : List PayLine) → ((d : Due) → all_of (stands_before (line_of i p d)) rest ≡ true) → in_order rest ≡ true → in_order (guest_lines o bank i p s ++ rest) ≡ true
  unfolding guest_lines pays_of side_pays
  guest-order i p s rest before ordered = go (is_staked s)
    where
      go : (b : Bool) → in_order (cond b (map (line_of i p) (guest_pays o bank s)) [] ++ rest) ≡ true
      go true = simp (map-append, append_assoc) (pays-order i p (stake s) rest before ordered (insurance s) (sides s) (first_cards s) (hands s))
      go false = ordered

  seats-order : (i : ℕ) (ss : List Seat) → in_order (all_lines o bank i ss) ≡ true
  unfolding in_order all_lines seat_lines
  seats-order i [] = refl
  seats-order i (s ∷ ss) =
      simp append_assoc
      (guest-order i 0 (guest_at s 0) _ (λ d. later-guest i 0 1 d (guest_at s 1) _ (omega arith) (later-guest i 0 2 d (guest_at s 2) _ (omega arith) (later-seats i 0 d ss)))
      (guest-order i 1 (guest_at s 1) _ (λ d. later-guest i 1 2 d (guest_at s 2) _ (omega arith) (later-seats i 1 d ss))
      (guest-order i 2 (guest_at s 2) _ (λ d. later-seats i 2 d ss)
      (seats-order (suc i) ss))))

pub in_order_lem : (o : Options) (bank : Score) (seats : List Seat) → InOrder o bank seats
in_order_lem o bank seats = seats-order o bank 0 seats
