-- The sums over all guests are those over the seated ones.
use mathlib.Core.Path.{◌≡◌}
use Prim.Native.Nat.{ℕ}
use Rattle.lists.specs.Sum.{sum_of}
use Rattle.lists.proofs.Sums.{sum-at-same}
use Rattle.table.specs.declared.Table.{Table}
use Rattle.table.specs.Seat.{missing_seat, over_guests, purse, laid, prizes, seat_cover}
use Rattle.table.specs.Table.{seat_at}
use Rattle.table.specs.Money.{layout, purses, all_prizes, all_cover, past_most_money}
use Rattle.payment.specs.declared.bank.Score.{Score}
use Rattle.close_spec.specs.Close.{guest_back}
use Rattle.one_guest.specs.Money.{past_most_one, cover_one, prizes_one}
use Rattle.one_guest.specs.AsBefore.{OnlySeated}
use Rattle.one_guest.proofs.Alone.{laid_alone, purse_alone, prizes_alone, cover_alone, back_alone}

module _ (t : Table) (only : OnlySeated t) where
  pub layout-one : layout t ≡ sum_of laid t.seats
  layout-one = sum-at-same (over_guests laid) laid t.seats missing_seat (λ i h. laid_alone (seat_at t i) (only i h))

  purses-one : purses t ≡ sum_of purse t.seats
  purses-one = sum-at-same (over_guests purse) purse t.seats missing_seat (λ i h. purse_alone (seat_at t i) (only i h))

  pub prizes_one_lem : all_prizes t ≡ prizes_one t
  prizes_one_lem = sum-at-same (over_guests (prizes t.options)) (prizes t.options) t.seats missing_seat (λ i h. prizes_alone (seat_at t i) (only i h) t.options)

  pub cover_one_lem : all_cover t ≡ cover_one t
  cover_one_lem = sum-at-same (over_guests seat_cover) seat_cover t.seats missing_seat (λ i h. cover_alone (seat_at t i) (only i h))

  pub back_one : (bank : Score) → sum_of (over_guests (guest_back t.options bank)) t.seats ≡ sum_of (guest_back t.options bank) t.seats
  back_one bank = sum-at-same (over_guests (guest_back t.options bank)) (guest_back t.options bank) t.seats missing_seat (λ i h. back_alone (seat_at t i) (only i h) t.options bank)

  pub past_one : (n : ℕ) → past_most_money t n ≡ past_most_one t n
  past_one n = rw (layout-one, purses-one)
