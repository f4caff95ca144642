-- What a guest laid is what lies there for the pays, and what goes back is at most that and the guest's cover.
use mathlib.Core.Path.{◌≡◌, refl}
use mathlib.Core.Bool.{Bool, true, false}
use mathlib.Core.List.{[]}
use Prim.Native.Nat.{ℕ, ◌+◌, ◌≤◌, ◌<◌}
use native.Mathlib.Decide.{dec_le}
use native.Mathlib.Nat.{le_refl}
use native.Mathlib.Omega.{arith}
use lib.Dec.{eqb}
use lib.ListN.{length, get_or}
use borrow.Author.Tests.{eqb-true}
use Rattle.lists.specs.Sum.{sum_of}
use Rattle.lists.proofs.Sums.{sum-none}
use Rattle.options.specs.declared.Options.{Options}
use Rattle.payment.specs.declared.bank.Score.{Score}
use Rattle.rules.specs.SeatHand.{played_of}
use Rattle.payment.specs.Wager.{wager}
use Rattle.payment.specs.HandPay.{hand_pay}
use Rattle.payment.specs.Bets.{all_sides}
use Rattle.payment.proofs.Bounds.{wager_bounds}
use Rattle.payment.proofs.Pays.{back_of_lem}
use Rattle.payment.proofs.cover.Bounds.{gain_most, seat_gain, seat_cover_lem, sides-most}
use Rattle.table.specs.declared.Seat.{Seat}
use Rattle.table.specs.Seat.{missing_place, guest_at, stake, insurance, sides, hands, first_cards, bets_of, laid, prizes, seat_cover}
use Rattle.table.specs.Aids.Sound.{SoundSeat, SoundGuest, NoBets}
use Rattle.table.proofs.Guests.{guest-hands}
use Rattle.table.proofs.Facts.{insurance_most, few_hands}
use Rattle.close_spec.specs.Close.{guest_back}

-- without hands there are no wagers
no_wagers : (s : Seat) → length (hands s) ≡ 0 → sum_of (wager (stake s)) (hands s) ≡ 0
no_wagers s empty = sum-none (wager (stake s)) (hands s) (played_of missing_place) (λ p h. absurd (omega arith))

-- a guest who has no stake where there is no hand, and no insurance above the stake, has laid the wagers of the hands, the insurance and the side stakes
pub laid-wagers : (s : Seat) → insurance s ≤ stake s → (length (hands s) ≡ 0 → stake s ≡ 0) → laid s ≡ sum_of (wager (stake s)) (hands s) + insurance s + all_sides (sides s)
unfolding laid
laid-wagers s insured waiting = go (eqb (length (hands s)) 0) refl
  where
    go : (none : Bool) → eqb (length (hands s)) 0 ≡ none → laid s ≡ sum_of (wager (stake s)) (hands s) + insurance s + all_sides (sides s)
    go true e =
        let empty : length (hands s) ≡ 0 = eqb-true (length (hands s)) 0 e in
        simp e (omega (arith, waiting empty, no_wagers s empty))
    go false e = simp e

-- in a dealt round the insurance is at most the stake
module _ (o : Options) (up i : ℕ) (s : Seat) (sound : SoundGuest o true up i s) where
  pub insured-most : insurance s ≤ stake s
  insured-most = go (dec_le (insurance s) 0)
    where
      go : Dec (insurance s ≤ 0) → insurance s ≤ stake s
      go (yes h) = omega arith
      go (no h) = insurance_most o (stake s) (insurance s) (sound.insured (omega arith)).permitted

  -- so whatever the stake, wagers, insurance and side stakes are at most what was laid
  wagers-most : sum_of (wager (stake s)) (hands s) + insurance s + all_sides (sides s) ≤ laid s
  unfolding laid
  wagers-most = go (eqb (length (hands s)) 0) refl
    where
      go : (none : Bool) → eqb (length (hands s)) 0 ≡ none → sum_of (wager (stake s)) (hands s) + insurance s + all_sides (sides s) ≤ laid s
      go true e =
          let empty : length (hands s) ≡ 0 = eqb-true (length (hands s)) 0 e in
          simp e (omega (arith, insured-most, no_wagers s empty))
      go false e = simp e (le_refl (sum_of (wager (stake s)) (hands s) + insurance s + all_sides (sides s)))

  -- so what goes back, with the prizes, is at most what was laid and the cover
  pub back_most : length (hands s) ≤ 4 → (bank : Score) → guest_back o bank s + prizes o s ≤ laid s + seat_cover s
  unfolding guest_back prizes
  back_most few bank =
      omega (
        arith,
        back_of_lem o bank (bets_of s),
        seat_cover_lem o bank (stake s) (hands s) (insurance s) few insured-most,
        sides-most (first_cards s) (sides s),
        wagers-most,
      )

-- the guests of a seat
pub guest-most : (o : Options) (up i : ℕ) (s : Seat) → SoundSeat o true up i s → o.hands ≤ 4 → (bank : Score) (p : ℕ) → p < 3
    → guest_back o bank (guest_at s p) + prizes o (guest_at s p) ≤ laid (guest_at s p) + seat_cover (guest_at s p)
guest-most o up i s sound few bank p h =
    let hands-few : length (hands (guest_at s p)) ≤ 4 = rw (guest-hands s p) (few_hands o true up i s few sound) in
    back_most o up i (guest_at s p) (sound.guests p h) hands-few bank

-- nothing goes back to a guest with nothing on the layout, whatever the hands
pub nothing_back : (o : Options) (bank : Score) (s : Seat) → NoBets s → guest_back o bank s ≡ 0
unfolding guest_back sum_of
nothing_back o bank s none =
    let parts = back_of_lem o bank (bets_of s) in
    let hands_none : sum_of (λ h. (hand_pay o bank (stake s) h).back) (hands s) ≡ 0 =
    sum-none (λ h. (hand_pay o bank (stake s) h).back) (hands s) (played_of missing_place) (λ k h.
    let x = get_or (hands s) k (played_of missing_place) in
    omega (arith, none.no_stake_lem, gain_most o bank (stake s) x, (wager_bounds (stake s) x).1)) in
    let sides-none = sides-most (first_cards s) (sides s) in
    omega (
      arith,
      seat_gain o bank (stake s) [] (insurance s) (omega arith) (omega (arith, none.no_insurance)),
      none.no_stake_lem,
      none.no_insurance,
      none.no_sides 0 (omega arith),
      none.no_sides 1 (omega arith),
      none.no_sides 2 (omega arith),
      none.no_sides 3 (omega arith),
    )
