-- A seat's hands in use, as a loop over its places sees them: what it adds up hand by hand, and how much a seat can have laid and won in prizes.
use mathlib.Core.Path.{◌≡◌, ◌∙◌}
use mathlib.Core.Bool.{cond}
use Prim.Native.Nat.{ℕ, ◌+◌, ◌*◌, ◌≤◌, ◌<◌, min}
use native.Mathlib.Nat.{mul-le-mul_left}
use native.Mathlib.Numerals.{add-one}
use native.Mathlib.Omega.{arith}
use lib.Dec.{eqb}
use lib.ListN.{length, take, get_or, length-map}
use Rattle.lists.specs.Sum.{sum_of}
use Rattle.lists.proofs.Picks.{cond_most}
use Rattle.std.specs.List.{sum_by}
use Rattle.lists.proofs.Sums.{sum-take, sum-most, sum-map}
use Rattle.lists.proofs.Chains.{sum_of-sum_by}
use Rattle.lists.proofs.Takes.{count-taken}
use Rattle.options.specs.declared.Options.{Options}
use Rattle.rules.specs.declared.seat_hand.SeatHand.{SeatHand}
use Rattle.rules.specs.declared.seat_hand.SeatHands.{SeatHands}
use Rattle.rules.specs.SeatHand.{Played, played_of, hands_of}
use Rattle.rules.proofs.seat_hand.Places.{none, many_hands, hand_at}
use Rattle.payment.specs.Bets.{all_sides}
use Rattle.payment.specs.Wager.{wager}
use Rattle.payment.specs.Prize.{most_prize}
use Rattle.payment.proofs.Bounds.{wager_bounds, seat-prizes}
use Rattle.table.specs.declared.Seat.{Seat}
use Rattle.table.specs.Seat.{stake, insurance, sides, hands, laid, prizes}

module _ (f : Played → ℕ) (s : SeatHands) (full : length s.places ≡ 4) where
  -- one hand more
  pub next-hand : (i : ℕ) → i < min s.many 4 → sum_of f (take (i + 1) (hands_of s)) ≡ sum_of f (take i (hands_of s)) + f (played_of (get_or s.places i none))
  next-hand i h =
      let within : i < length (hands_of s) = omega (arith, many_hands s full) in
      rw (add-one, sum-take f (hands_of s) i (played_of none), hand_at s i none (omega arith))

  pub hands_most : (k : ℕ) → ((h : Played) → f h ≤ k) → sum_of f (hands_of s) ≤ 4 * k
  hands_most k most =
      let few : length (hands_of s) ≤ 4 = omega (arith, many_hands s full) in
      omega (arith, mul-le-mul_left k few, sum-most f k most (hands_of s))

  -- as a chain over the places in use adds them
  pub hands-added : sum_of f (hands_of s) ≡ sum_by (λ (h : SeatHand). f (played_of h)) (take s.many s.places)
  hands-added = sum-map f played_of (take s.many s.places) ∙ sum_of-sum_by (λ (h : SeatHand). f (played_of h)) (take s.many s.places)

  pub added_most : (k : ℕ) → ((h : Played) → f h ≤ k) → sum_by (λ (h : SeatHand). f (played_of h)) (take s.many s.places) ≤ 4 * k
  added_most k most = rw (← hands-added) (hands_most k most)

-- a seat has no hand exactly if its count is 0
pub no_hand : (s : SeatHands) → length s.places ≡ 4 → eqb (length (hands_of s)) 0 ≡ eqb s.many 0
no_hand s full = rw length-map (count-taken s.places s.many 0 (omega arith))

module _ (s : Seat) (full : length s.hands.places ≡ 4) where
  pub laid-most : laid s ≤ 8 * stake s + insurance s + all_sides (sides s)
  unfolding laid
  laid-most =
      let few : cond (eqb (length (hands s)) 0) (stake s) (sum_of (wager (stake s)) (hands s) + insurance s) ≤ 8 * stake s + insurance s =
      cond_most (eqb (length (hands s)) 0) (omega arith)
      (omega (arith, hands_most (wager (stake s)) s.hands full (2 * stake s) (λ h. (wager_bounds (stake s) h).1))) in
      omega (arith, few)

  pub prizes-most : (o : Options) → prizes o s ≤ 4 * most_prize (stake s)
  unfolding prizes
  prizes-most o = seat-prizes o (stake s) (hands s) (omega (arith, many_hands s.hands full))
