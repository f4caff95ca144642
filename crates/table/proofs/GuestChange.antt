-- A call that changes one guest's money and nothing else (buy, cash, stake, side stakes, insure): it is a change of the seat. What the guest's new money must give
-- is said of the seat with that money, as if the guest were alone there.
use mathlib.Core.Path.{◌≡◌, refl, sym, ◌∙◌, ap}
use mathlib.Core.Bool.{Bool, true}
use Prim.Native.Nat.{ℕ, ◌+◌, ◌≤◌, ◌<◌}
use native.Mathlib.Decide.{ℕ_discrete}
use native.Mathlib.Omega.{arith}
use lib.Dec.{ltb}
use lib.ListN.{length}
use Rattle.lists.specs.Sum.{sum_of}
use Rattle.options.specs.declared.Options.{Options}
use Rattle.options.proofs.Facts.{in_range_facts}
use Rattle.table.specs.declared.Money.{Money}
use Rattle.table.specs.declared.Seat.{Seat}
use Rattle.table.specs.declared.Table.{Table}
use Rattle.table.specs.Seat.{with_money, guest_at, with_guest, purse, stake, laid, prizes, seat_cover}
use Rattle.table.specs.Table.{seat_at, guest_of, is_dealt, up}
use Rattle.table.specs.Money.{most_money, all_money}
use Rattle.table.specs.Shape.{Shaped, ShapedSeat}
use Rattle.table.specs.Aids.Sound.{Sound, SoundSeat, SoundGuest, Playing}
use Rattle.table.proofs.Guests.{guest-seated, guest-hands, put-hands, put_here, put_other, of_laid, of_prizes, over_put, shaped_put}
use Rattle.table.proofs.Facts.{sound-alike}
use Rattle.table.proofs.SeatChange.{SeatChange}

-- The seat stays sound where the new guest is: a stake does not fall, changes only between rounds, and is the seated guest's first.
module _ (o : Options) (in_round : Bool) (up i : ℕ) (s : Seat) (p : ℕ) (m : Money) (two : length s.others ≡ 2) (position : p < 3) where
  new-guest : SoundSeat o in_round up i s → SoundGuest o in_round up i (with_money s m) → (q : ℕ) → q < 3 → Dec (q ≡ p) → SoundGuest o in_round up i (guest_at (with_guest s p m) q)
  new-guest was new q h (yes same) =
      rw same
      (sound-alike o in_round up i (guest_at (with_guest s p m) p) (with_money s m) (put_here s p m two position) (guest-hands (with_guest s p m) p ∙ put-hands s p m) new)
  new-guest was new q h (no other) =
      sound-alike o in_round up i (guest_at (with_guest s p m) q) (guest_at s q) (put_other s p q m other) (guest-hands (with_guest s p m) q ∙ put-hands s p m ∙ sym (guest-hands s q)) (was.guests q h)

  -- each guest's stake
  stake-here : stake (guest_at (with_guest s p m) p) ≡ m.stake
  stake-here = ap (λ (x : Money). x.stake) (put_here s p m two position)

  stake-other : (q : ℕ) → (q ≡ p → ⊥) → stake (guest_at (with_guest s p m) q) ≡ stake (guest_at s q)
  stake-other q other = ap (λ (x : Money). x.stake) (put_other s p q m other)

  seat-stake : (p ≡ 0 → stake (with_guest s p m) ≡ m.stake) × ((p ≡ 0 → ⊥) → stake (with_guest s p m) ≡ stake s)
  seat-stake = (
    λ seated. ap stake (sym (guest-seated (with_guest s p m))) ∙ ap (λ (q : ℕ). stake (guest_at (with_guest s p m) q)) (sym seated) ∙ stake-here,
    λ beside. ap stake (sym (guest-seated (with_guest s p m))) ∙ stake-other 0 (λ e. beside (sym e)) ∙ ap stake (guest-seated s),
  )

  pub put-sound : SoundSeat o in_round up i s → SoundGuest o in_round up i (with_money s m)
      → stake (guest_at s p) ≤ m.stake → (in_round ≡ true → m.stake ≡ stake (guest_at s p)) → ((p ≡ 0 → ⊥) → stake s ≡ 0 → m.stake ≡ 0)
      → SoundSeat o in_round up i (with_guest s p m)
  put-sound was new grows in_round_lem seated_stakes =
      record {
        guests = λ q h. new-guest was new q h (ℕ_discrete q p);
        seated_first_lem = λ q h none. first q h none (ℕ_discrete q p) (ℕ_discrete p 0);
        waiting = λ none dealt. waits (rw (put-hands s p m) at none) dealt (ℕ_discrete p 0);
        playing = λ some. plays (was.playing (rw (put-hands s p m) at some));
      }
    where
      never_less : stake s ≤ stake (with_guest s p m)
      never_less = go (ℕ_discrete p 0)
        where
          go : Dec (p ≡ 0) → stake s ≤ stake (with_guest s p m)
          go (yes seated) = omega (arith, seat-stake.0 seated, grows, ap (λ (q : ℕ). stake (guest_at s q)) seated, ap stake (guest-seated s))
          go (no beside) = omega (arith, seat-stake.1 beside)

      first : (q : ℕ) → q < 3 → stake (with_guest s p m) ≡ 0 → Dec (q ≡ p) → Dec (p ≡ 0) → stake (guest_at (with_guest s p m) q) ≡ 0
      first q h none (yes same) (yes seated) = omega (arith, ap (λ (q : ℕ). stake (guest_at (with_guest s p m) q)) same, stake-here, seat-stake.0 seated)
      first q h none (yes same) (no beside) =
          omega (arith, ap (λ (q : ℕ). stake (guest_at (with_guest s p m) q)) same, stake-here, seated_stakes beside (omega (arith, never_less)))
      first q h none (no other) seated = omega (arith, stake-other q other, was.seated_first_lem q h (omega (arith, never_less)))

      waits : s.hands.many ≡ 0 → in_round ≡ true → Dec (p ≡ 0) → stake (with_guest s p m) ≡ 0
      waits none dealt (yes seated) =
          omega (arith, seat-stake.0 seated, in_round_lem dealt, ap (λ (q : ℕ). stake (guest_at s q)) seated, ap stake (guest-seated s), was.waiting none dealt)
      waits none dealt (no beside) = omega (arith, seat-stake.1 beside, was.waiting none dealt)

      plays : Playing o in_round up s → Playing o in_round up (with_guest s p m)
      plays f =
          rw (put-hands s p m)
          (record { in_round_lem = f.in_round_lem; staked = omega (arith, never_less, f.staked); within = f.within; each = f.each })

-- What such a call must give; `came` is money that comes onto the table by it, `went` money that leaves it.
pub record GuestChange (t : Table) (j p : ℕ) (m : Money) (came went : ℕ) : Type 0 where
  pub within : j < t.options.seats
  pub position : p < 3
  pub as_many : length m.sides ≡ 4
  pub sound_guest_lem : SoundGuest t.options (is_dealt t) (up t) j (with_money (seat_at t j) m)
  pub grows : stake (guest_of t j p) ≤ m.stake
  pub same_stake : is_dealt t ≡ true → m.stake ≡ stake (guest_of t j p)
  pub seated_stakes : (p ≡ 0 → ⊥) → stake (seat_at t j) ≡ 0 → m.stake ≡ 0
  pub same_cover : is_dealt t ≡ true → seat_cover (with_money (seat_at t j) m) ≡ seat_cover (guest_of t j p)
  pub same_prizes : is_dealt t ≡ true → prizes t.options (with_money (seat_at t j) m) ≡ prizes t.options (guest_of t j p)
  pub paid : laid (with_money (seat_at t j) m) + m.purse + went ≡ laid (guest_of t j p) + purse (guest_of t j p) + came
  pub in_limit : all_money t + came ≤ most_money + went

pub guest_change : (t : Table) (j p : ℕ) (m : Money) (came went : ℕ) → Shaped t → Sound t → GuestChange t j p m came went
    → SeatChange t j t.tray (with_guest (seat_at t j) p m) t.shoe 0 came went
unfolding sum_of
guest_change t j p m came went shaped sound ch =
    record {
      within = ch.within;
      shaped_seat = shaped_put s p m was ch.position ch.as_many;
      sound_seat_lem = put-sound t.options (is_dealt t) (up t) j s p m two ch.position (sound.seats j nine) ch.sound_guest_lem ch.grows ch.same_stake ch.seated_stakes;
      same_staked = λ dealt. ap (ltb 0) (staked dealt (ℕ_discrete p 0));
      same_cover = λ dealt. omega (arith, over_put seat_cover (λ x others. refl) s p m two ch.position, ch.same_cover dealt);
      paid = omega (arith, over_put laid of_laid s p m two ch.position, over_put purse (λ x others. refl) s p m two ch.position, ch.paid);
      in_limit = ch.in_limit;
      prizes_paid = λ dealt. omega (arith, over_put (prizes t.options) (of_prizes t.options) s p m two ch.position, ch.same_prizes dealt);
      same_order = refl;
      same_discards = refl;
      same_discarded = refl;
      more_drawn = omega arith;
      same_begun = refl;
      drawn_before = λ some. absurd (omega arith);
      enough = omega (arith, sound.drawn);
      cards_moved = λ w. rw (put-hands s p m) (omega arith);
    }
  where
    s : Seat
    s = seat_at t j

    nine : j < 9
    nine = omega (arith, (in_range_facts t.options sound.options).seats_most, ch.within)

    was : ShapedSeat s
    was = shaped.seats j nine

    two : length s.others ≡ 2
    two = was.two_others

    staked : is_dealt t ≡ true → Dec (p ≡ 0) → stake (with_guest s p m) ≡ stake s
    staked dealt (yes seated) =
        omega (arith, (seat-stake t.options (is_dealt t) (up t) j s p m two ch.position).0 seated, ch.same_stake dealt, ap (λ (q : ℕ). stake (guest_at s q)) seated, ap stake (guest-seated s))
    staked dealt (no beside) = (seat-stake t.options (is_dealt t) (up t) j s p m two ch.position).1 beside
