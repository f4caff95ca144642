-- On a sound table a void can give all back: the tray does not pass the limit, and at most as many cards are drawn as there is room for.
use mathlib.Core.Path.{◌≡◌}
use mathlib.Core.List.{map}
use Prim.Native.Nat.{ℕ, ◌+◌, ◌≤◌, ◌<◌}
use native.Mathlib.Omega.{arith}
use lib.ListN.{length}
use Rattle.lists.proofs.Sums.{sum-plus, sum-at-most}
use Rattle.cards.specs.declared.hand.Hand.{Hand}
use Rattle.cards.specs.Hand.{empty_hand}
use Rattle.table.specs.declared.Shoe.{Shoe}
use Rattle.table.specs.declared.Table.{Table}
use Rattle.table.specs.Seat.{missing_seat, over_guests, purse, laid, prizes}
use Rattle.table.specs.Shoe.{discard_drawn}
use Rattle.table.specs.Table.{make_table, guest_of}
use Rattle.table.specs.Aids.WithSeats.{with_seats}
use Rattle.table.specs.Money.{most_money, all_prizes}
use Rattle.table.specs.Aids.Sound.{Sound}
use Rattle.table.proofs.Facts.{decks_416}
use Rattle.close_spec.specs.Void.{void_effect}
use Rattle.close.specs.declared.seats.Ending.TheVariants.{Void}
use Rattle.close.specs.Aids.Ended.{ended_seat}

module _ (t : Table) (sound : Sound t) where
  pub tray_back : length t.seats ≡ 9 → t.tray + all_prizes t ≤ most_money
  tray_back nine =
      omega (
        arith,
        sum-at-most (over_guests (prizes t.options)) (λ s. over_guests purse s + over_guests laid s) t.seats missing_seat
            (λ i h. omega (arith, within i (omega arith) 0 (omega arith), within i (omega arith) 1 (omega arith), within i (omega arith) 2 (omega arith))),
        sum-plus (over_guests purse) (over_guests laid) t.seats,
        sound.money,
      )
    where
      within : (i : ℕ) → i < 9 → (p : ℕ) → p < 3 → prizes t.options (guest_of t i p) ≤ purse (guest_of t i p) + laid (guest_of t i p)
      within i h p l = ((sound.seats i h).guests p l).prizes_back

  pub drawn-fits : t.shoe.drawn ≤ 416
  drawn-fits = omega (arith, sound.drawn, decks_416 t sound)

-- the effect, part by part
pub void_is : (t u : Table) (won : ℕ) (bank : Hand) (shoe : Shoe)
    → u ≡ with_seats t (map (ended_seat (Void t.options)) t.seats)
    → won ≡ all_prizes t
    → bank ≡ empty_hand
    → shoe ≡ discard_drawn t.shoe
    → make_table u.options (t.tray + won) u.seats bank shoe ≡ void_effect t
unfolding void_effect
void_is t u won bank shoe seats prizes none cards = rw (seats, prizes, none, cards)
