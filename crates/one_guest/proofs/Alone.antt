-- A seat at which the two others hold nothing: what is summed over its guests is the seated guest's part, the seated guest decides, and it is the purse of that guest alone that can be short.
use mathlib.Core.Path.{◌≡◌, refl, ap}
use mathlib.Core.Bool.{Bool, true, false, cond, or-false}
use mathlib.Core.List.{List, map}
use Prim.Native.Nat.{ℕ, ◌<◌, ◌≤◌}
use native.Mathlib.Omega.{arith}
use native.Mathlib.Decide.{dec_lt}
use lib.Dec.{ltb, eqb}
use lib.ListN.{length, get_or, replicate, get_or-replicate, get_or-eq_default}
use borrow.Author.Tests.{le-ltb}
use Rattle.options.specs.declared.Options.{Options}
use Rattle.options.specs.Decider.{largest_stake, deciding_position}
use Rattle.payment.specs.declared.bank.Score.{Score}
use Rattle.table.specs.declared.Money.{Money}
use Rattle.table.specs.declared.Seat.{Seat}
use Rattle.table.specs.declared.Table.{Table}
use Rattle.table.specs.Guest.{holding, missing_money}
use Rattle.table.specs.Seat.{with_money, guest_at, over_guests, purse, stake, laid, prizes, seat_cover, decider, missing_seat}
use Rattle.table.specs.Table.{seat_at}
use Rattle.table.specs.Aids.Sound.{NoBets}
use Rattle.table.proofs.Facts.{nothing-laid, unstaked_prizes}
use Rattle.table.proofs.Guests.{guest-seated}
use Rattle.close_spec.specs.Close.{guest_back}
use Rattle.close_spec.proofs.Back.{nothing_back}
use Rattle.decisions_spec.specs.Card.{purse_short}
use Rattle.one_guest.specs.AsBefore.{OnlySeated}

either : (b : Bool) (x : ℕ) → x ≡ 0 → cond b 0 x ≡ 0
either true x e = refl
either false x e = e

module _ (s : Seat) (alone : s.others ≡ replicate 2 (holding 0)) where
  abbrev nobody : Seat
  nobody = with_money s (holding 0)

  pub one : guest_at s 1 ≡ nobody
  unfolding guest_at
  one = ap (λ (ms : List Money). with_money s (get_or ms 0 missing_money)) alone

  pub other : guest_at s 2 ≡ nobody
  unfolding guest_at
  other = ap (λ (ms : List Money). with_money s (get_or ms 1 missing_money)) alone

  pub no_bets : NoBets nobody
  no_bets = record { no_stake_lem = refl; no_insurance = refl; no_sides = λ k h. get_or-replicate {A = ℕ} 4 k 0 0 h }

  pub over_alone : (f : Seat → ℕ) → f nobody ≡ 0 → over_guests f s ≡ f s
  over_alone f none = rw (guest-seated s, one, other) (omega (arith, none))

  pub laid_alone : over_guests laid s ≡ laid s
  laid_alone = over_alone laid (nothing-laid nobody no_bets)

  pub purse_alone : over_guests purse s ≡ purse s
  purse_alone = over_alone purse refl

  pub prizes_alone : (o : Options) → over_guests (prizes o) s ≡ prizes o s
  prizes_alone o = over_alone (prizes o) (unstaked_prizes o nobody refl)

  pub cover_alone : over_guests seat_cover s ≡ seat_cover s
  cover_alone = over_alone seat_cover refl

  pub back_alone : (o : Options) (bank : Score) → over_guests (guest_back o bank) s ≡ guest_back o bank s
  back_alone o bank = over_alone (guest_back o bank) (nothing_back o bank nobody no_bets)

  decides : (o : Options) → decider o s ≡ 0
  unfolding deciding_position largest_stake
  decides o = rw (guest-seated s, one, other) (either (eqb o.decider 1) _ (simp (le-ltb (stake s) 0 (omega arith))))

  short-alone : purse_short s ≡ ltb (purse s) (stake s)
  short-alone = rw (guest-seated s, one, other) (simp or-false)

-- so of the seat of any number of such a table; one that the table does not have has nobody at all
module _ (t : Table) (only : OnlySeated t) (j : ℕ) where
  missing : length t.seats ≤ j → seat_at t j ≡ missing_seat
  missing past = get_or-eq_default t.seats missing_seat {n = j} past

  pub seated_decides : (o : Options) → decider o (seat_at t j) ≡ 0
  unfolding deciding_position largest_stake guest_at
  seated_decides o = go (dec_lt j (length t.seats))
    where
      go : Dec (j < length t.seats) → decider o (seat_at t j) ≡ 0
      go (yes h) = decides (seat_at t j) (only j h) o
      go (no h) = rw (missing (omega arith)) (either (eqb o.decider 1) 0 refl)

  pub seated-short : purse_short (seat_at t j) ≡ ltb (purse (seat_at t j)) (stake (seat_at t j))
  unfolding guest_at
  seated-short = go (dec_lt j (length t.seats))
    where
      go : Dec (j < length t.seats) → purse_short (seat_at t j) ≡ ltb (purse (seat_at t j)) (stake (seat_at t j))
      go (yes h) = short-alone (seat_at t j) (only j h)
      go (no h) = rw (missing (omega arith))

  -- a sum over the guests, and a change of all guests' money that gives nobody anything
  pub over_one : (f : Seat → ℕ) → ((r : Seat) → f (with_money r (holding 0)) ≡ 0) → f missing_seat ≡ 0 → over_guests f (seat_at t j) ≡ f (seat_at t j)
  unfolding guest_at
  over_one f none nowhere = go (dec_lt j (length t.seats))
    where
      go : Dec (j < length t.seats) → over_guests f (seat_at t j) ≡ f (seat_at t j)
      go (yes h) = over_alone (seat_at t j) (only j h) f (none (seat_at t j))
      go (no h) = rw (missing (omega arith)) (omega (arith, nowhere))

  pub others_stay : (f : Money → Money) → f (holding 0) ≡ holding 0 → map f (seat_at t j).others ≡ (seat_at t j).others
  others_stay f same = go (dec_lt j (length t.seats))
    where
      go : Dec (j < length t.seats) → map f (seat_at t j).others ≡ (seat_at t j).others
      go (yes h) = rw (only j h, same)
      go (no h) = rw (missing (omega arith))
