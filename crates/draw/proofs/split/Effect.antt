-- A split as the code makes it, step by step.
use mathlib.Core.Path.{◌≡◌}
use mathlib.Core.List.{List, map}
use Prim.Native.Nat.{ℕ, ◌+◌}
use lib.ListN.{get_or}
use Rattle.cards.specs.Hand.{cards_of}
use Rattle.rules.specs.declared.seat_hand.SeatHand.{SeatHand}
use Rattle.table.specs.declared.Money.{Money}
use Rattle.table.specs.declared.Seat.{Seat}
use Rattle.table.specs.declared.Table.{Table}
use Rattle.table.specs.Seat.{make_seat}
use Rattle.table.specs.Table.{seat_at}
use Rattle.answer.specs.Moved.{make_moved, moved_table}
use Rattle.decisions_spec.specs.Card.{card_ahead}
use Rattle.decisions_spec.specs.Turn.{waiting_place_of, waiting_hand_of}
use Rattle.decisions_spec.specs.Split.{split_hand, split_places, split_first, staked_again, split_effect}
use Rattle.draw.specs.Aids.Splits.{two_for}

-- the seat: its guests' money, the first cards, the places, and the two hands
pub same-two : (s : Seat) (p : ℕ) (h : SeatHand) (first second : ℕ) {seated : Money} {others : List Money} {cards : List ℕ} {places : List SeatHand} {kept-first kept_second : ℕ} {parent new : SeatHand}
    → seated ≡ staked_again s.money
    → others ≡ map staked_again s.others
    → cards ≡ split_first s first
    → places ≡ split_places s.hands.places p parent new
    → parent ≡ split_hand kept-first first
    → kept-first ≡ get_or (cards_of h.hand) 0 0
    → new ≡ split_hand kept_second second
    → kept_second ≡ get_or (cards_of h.hand) 1 0
    → make_seat seated others (record { places = places; many = s.hands.many + 1 }) cards ≡ two_for s p h first second
unfolding two_for
same-two s p h first second is-seated are-others keeps puts is-parent keeps-first is-new keeps-second =
    rw (is-seated, are-others, keeps, puts, is-parent, keeps-first, is-new, keeps-second)

-- what it moves: that seat, with the hand and its place as the code has read them, and two cards drawn
pub same_effect : (t : Table) (j hand : ℕ) {u : Table} {p first second : ℕ} {h : SeatHand} {s next : Seat}
    → u ≡ t
    → next ≡ two_for s p h first second
    → first ≡ card_ahead u 0
    → second ≡ card_ahead u 1
    → p ≡ waiting_place_of t j
    → h ≡ waiting_hand_of t j
    → s ≡ seat_at t j
    → moved_table t j (make_moved u.tray next (u.shoe.drawn + 2) hand) ≡ split_effect t j
unfolding split_effect two_for
same_effect t j hand read splits is-first is-second place waits same = rw (splits, is-first, is-second, place, waits, same, read)
