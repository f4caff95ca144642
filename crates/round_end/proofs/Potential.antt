-- What can still happen without a card: hands that no decision has ended, and staked guests without an insurance. Every call of a dealt round takes one of them away or draws as many cards as it adds.
use mathlib.Core.Path.{◌≡◌, ◌∙◌, ap}
use mathlib.Core.Bool.{Bool, true, cond, ◌&&◌, and-eq-true_iff}
use mathlib.Core.List.{List, ◌∷◌, ◌++◌}
use Prim.Native.Nat.{ℕ, zero, suc, ◌+◌, ◌*◌, ◌≤◌, ◌<◌}
use native.Mathlib.Decide.{dec_le}
use native.Mathlib.Omega.{arith}
use lib.Dec.{ltb, eqb}
use lib.ListN.{length, take, drop, get_or, set}
use lib.Seq.{split_at}
use borrow.Author.Tests.{ltb-true}
use Rattle.lists.specs.Sum.{sum_of}
use Rattle.lists.specs.Below.{sum_below}
use Rattle.lists.proofs.Sums.{sum-append, sum-set}
use Rattle.lists.proofs.Below.{sum_below-same}
use Rattle.lists.proofs.Tests.{first_inside, first_passes}
use Rattle.options.specs.declared.Options.{Options}
use Rattle.options.specs.Device.{is_box}
use Rattle.rules.specs.SeatHand.{Played, not_ended}
use Rattle.rules.specs.Waits.{waits}
use Rattle.rules.specs.Turn.{seat_waits, waiting_place}
use Rattle.history.specs.Entry.{Entry}
use Rattle.history.specs.Rounds.{stake_in, insurance_in}
use Rattle.history.specs.Hands.{missing_hand, hands_in}

-- a hand that no decision has ended, and those of a seat
abbrev pub open_hand : Played → ℕ
open_hand h = cond (eqb h.ended not_ended) 1 0

abbrev pub open_hands : List Played → ℕ
open_hands hands = sum_of open_hand hands

-- a staked guest without an insurance, and those of a seat
abbrev pub uninsured : List Entry → ℕ → ℕ → ℕ
uninsured es i p = cond (ltb 0 (stake_in es i p) && eqb (insurance_in es i p) 0) 1 0

abbrev pub seat_uninsured : List Entry → ℕ → ℕ
seat_uninsured es i = uninsured es i 0 + uninsured es i 1 + uninsured es i 2

module _ (o : Options) (opening : List ℕ) where
  abbrev pub hands_open : List Entry → ℕ
  hands_open es = sum_below (λ i. open_hands (hands_in o opening es i)) o.seats

  abbrev pub guests_open : List Entry → ℕ
  guests_open es = sum_below (seat_uninsured es) o.seats

  abbrev pub potential : List Entry → ℕ
  potential es = hands_open es + guests_open es

-- the box has its second card from the deal, so that its close may draw none
abbrev pub slack : Options → ℕ
slack o = cond (is_box o) 1 0

-- one of the numbers below is changed
pub below_change : (f g : ℕ → ℕ) (n j : ℕ) → j < n → ((i : ℕ) → i < n → (i ≡ j → ⊥) → f i ≡ g i) → sum_below f n + g j ≡ sum_below g n + f j
unfolding sum_below
below_change f g zero j h same = absurd (omega arith)
below_change f g (suc n) j h same = go (dec_le n j) (below_change f g n j)
  where
    go : Dec (n ≤ j) → (j < n → ((i : ℕ) → i < n → (i ≡ j → ⊥) → f i ≡ g i) → sum_below f n + g j ≡ sum_below g n + f j) → sum_below f (suc n) + g j ≡ sum_below g (suc n) + f j
    go (yes le) earlier =
        let last : n ≡ j = omega arith in
        let below : sum_below f n ≡ sum_below g n = sum_below-same f g n (λ i l. same i (omega arith) (λ e. omega arith)) in
        omega (arith, below, ap f last, ap g last)
    go (no gt) earlier = omega (arith, earlier (omega arith) (λ i l other. same i (omega arith) other), same n (omega arith) (λ e. omega arith))

-- so many times as much at most
pub below_most : (f g : ℕ → ℕ) (k n : ℕ) → ((i : ℕ) → i < n → f i ≤ k * g i) → sum_below f n ≤ k * sum_below g n
unfolding sum_below
below_most f g k zero h = omega arith
below_most f g k (suc n) h = omega (arith, h n (omega arith), below_most f g k n (λ i l. h i (omega arith)))

-- a waiting hand is one that no decision has ended
waits_open : (o : Options) (up many : ℕ) (h : Played) → waits o up many h ≡ true → eqb h.ended not_ended ≡ true
unfolding waits
waits_open o up many h e = ((and-eq-true_iff (eqb h.ended not_ended) _).0 e).0

module _ (o : Options) (up : ℕ) (hands : List Played) (w : seat_waits o up hands ≡ true) where
  abbrev place : ℕ
  place = waiting_place o up hands

  pub place_inside : place < length hands
  place_inside = ltb-true place (length hands) (first_inside (waits o up (length hands)) hands ∙ w)

  pub place_open : open_hand (get_or hands place missing_hand) ≡ 1
  place_open = ap (λ (b : Bool). cond b 1 0) (waits_open o up (length hands) (get_or hands place missing_hand) (first_passes (waits o up (length hands)) hands missing_hand place_inside))

-- one hand of a list changed for another, and for two
pub change_one : (hands : List Played) (p : ℕ) (h : Played) → p < length hands → open_hands (set hands p h) + open_hand (get_or hands p missing_hand) ≡ open_hands hands + open_hand h
change_one hands p h l = sum-set open_hand hands p h missing_hand l

pub change_two : (hands : List Played) (p : ℕ) (one two : Played) → p < length hands → open_hands (take p hands ++ one ∷ two ∷ drop (suc p) hands) + open_hand (get_or hands p missing_hand) ≡ open_hands hands + open_hand one + open_hand two
unfolding sum_of
change_two hands p one two l =
    omega (arith, sum-append open_hand (take p hands) (one ∷ two ∷ drop (suc p) hands), sum-append open_hand (take p hands) (get_or hands p missing_hand ∷ drop (suc p) hands), ap open_hands (split_at hands p missing_hand l))
