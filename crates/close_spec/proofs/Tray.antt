-- The tray can pay at close, whatever the bank's score: on a sound table that is dealt, what goes back is at most the tray and what was laid.
-- Of the arrays' lengths only that of the seats is asked for.
use mathlib.Core.Path.{◌≡◌, subst}
use mathlib.Core.Bool.{Bool, true}
use Prim.Native.Nat.{ℕ, ◌+◌, ◌≤◌, ◌<◌}
use native.Mathlib.Omega.{arith}
use lib.ListN.{length}
use Rattle.lists.specs.Sum.{sum_of}
use Rattle.lists.proofs.Sums.{sum-plus, sum-at-most}
use Rattle.options.specs.declared.Options.{Options}
use Rattle.payment.specs.declared.bank.Score.{Score}
use Rattle.table.specs.declared.Table.{Table}
use Rattle.table.specs.Seat.{missing_seat, over_guests, laid, prizes, seat_cover}
use Rattle.table.specs.Table.{seat_at, guest_of, is_dealt, up}
use Rattle.table.specs.Money.{most_money, layout}
use Rattle.table.specs.Aids.Sound.{Sound, SoundSeat}
use Rattle.table.proofs.Facts.{sound_options}
use Rattle.close_spec.specs.Close.{guest_back}
use Rattle.close_spec.proofs.Back.{guest-most}

module _ (t : Table) (sound : Sound t) where
  -- tray and layout together are within the limit
  pub tray_limit : t.tray + layout t ≤ most_money
  tray_limit = omega (arith, sound.money)

  module _ (dealt : is_dealt t ≡ true) where
    pub dealt_seat_lem : (i : ℕ) → i < 9 → SoundSeat t.options true (up t) i (seat_at t i)
    dealt_seat_lem i h = subst (λ (d : Bool). SoundSeat t.options d (up t) i (seat_at t i)) dealt (sound.seats i h)

    pub tray_pays : length t.seats ≡ 9 → (bank : Score) → sum_of (over_guests (guest_back t.options bank)) t.seats ≤ t.tray + layout t
    tray_pays nine bank =
        omega (
          arith,
          sum-at-most (λ s. over_guests (guest_back o bank) s + over_guests (prizes o) s) (λ s. over_guests laid s + over_guests seat_cover s) t.seats missing_seat
              (λ i h. omega (arith, most i (omega arith) 0 (omega arith), most i (omega arith) 1 (omega arith), most i (omega arith) 2 (omega arith))),
          sum-plus (over_guests (guest_back o bank)) (over_guests (prizes o)) t.seats,
          sum-plus (over_guests laid) (over_guests seat_cover) t.seats,
          sound.cover dealt,
        )
      where
        o : Options
        o = t.options

        most : (i : ℕ) → i < 9 → (p : ℕ) → p < 3 → guest_back o bank (guest_of t i p) + prizes o (guest_of t i p) ≤ laid (guest_of t i p) + seat_cover (guest_of t i p)
        most i h = guest-most o (up t) i (seat_at t i) (dealt_seat_lem i h) (sound_options t sound).hands_most bank
