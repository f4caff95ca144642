-- The seat that `split_effect` makes, over its place, its hand and the two cards drawn, and what an accepted split gives its effect.
use Rattle.std.specs.Prelude.{ℕ, ◌+◌, ◌≤◌, ◌<◌, get_or}
use Rattle.cards.specs.Hand.{cards_of}
use Rattle.rules.specs.declared.seat_hand.SeatHand.{SeatHand}
use Rattle.table.specs.declared.Seat.{Seat}
use Rattle.table.specs.declared.Table.{Table}
use Rattle.table.specs.Seat.{make_seat, guest_at, map_guests, purse, stake}
use Rattle.table.specs.Table.{seat_at}
use Rattle.decisions_spec.specs.Split.{split_hand, split_places, split_first, staked_again}
use Rattle.decisions.specs.declared.turn.HandInTurn.{HandInTurn}
use Rattle.decisions.specs.InTurn.{InTurn}

-- The seat with that hand h at p split: a stake less in each purse, a hand more.
unfoldable pub two_for : Seat → ℕ → SeatHand → ℕ → ℕ → Seat
two_for s p h first second =
    let x = map_guests staked_again s in
    make_seat x.money x.others
    (record { places = split_places s.hands.places p (split_hand (get_or (cards_of h.hand) 0 0) first) (split_hand (get_or (cards_of h.hand) 1 0) second); many = s.hands.many + 1 })
    (split_first s first)

-- The seat's number of hands is no damaged one, and the purses pay for another.
pub record Pays (s : Seat) : Type 0 where
  pub room : s.hands.many ≤ 4
  pub enough : (p : ℕ) → p < 3 → stake (guest_at s p) ≤ purse (guest_at s p)

-- The hand is the one whose turn it is, its seat pays, and the order has two cards more.
pub record Splits (t : Table) (h : HandInTurn) : Type 0 where
  pub turn : InTurn t h
  pub pays : Pays (seat_at t h.guest.seat)
  pub two_left : t.shoe.drawn + 2 ≤ 416
