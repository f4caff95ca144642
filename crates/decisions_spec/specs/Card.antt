-- Document 01, "The seventeen calls", the guest, and "Payment": what draw and double share. The next card of the shoe goes to the hand whose turn it is,
-- and a prize is paid in the call that makes it.
use Rattle.std.specs.Prelude.{Bool, ℕ, ◌+◌, ◌-◌, ◌*◌, ltb, get_or, set}
use Rattle.options.specs.declared.Options.{Options}
use Rattle.cards.specs.Hand.{with_card}
use Rattle.rules.specs.declared.seat_hand.SeatHand.{SeatHand}
use Rattle.rules.specs.SeatHand.{Played, played_of}
use Rattle.payment.specs.Prize.{prize}
use Rattle.table.specs.declared.Money.{Money}
use Rattle.table.specs.declared.Seat.{Seat}
use Rattle.table.specs.declared.Table.{Table}
use Rattle.table.specs.Guest.{with_purse}
use Rattle.table.specs.Seat.{make_seat, map_guests, over_guests, any_guest, purse, stake}
use Rattle.table.specs.Shoe.{with_drawn}
use Rattle.table.specs.Table.{make_table, seat_at}
use Rattle.decisions_spec.specs.Turn.{waiting_place_of, waiting_hand_of}

-- The card n places behind the next one.
abbrev pub card_ahead : Table → ℕ → ℕ
card_ahead t n = get_or t.shoe.order (t.shoe.drawn + n) 0

-- 15 of double and split: the purse of some guest of the seat is below that guest's own stake (request 2.8).
abbrev pub purse_short : Seat → Bool
purse_short s = any_guest (λ g. ltb (purse g) (stake g)) s

-- The hand whose turn it is with the next card, ended by this code.
abbrev pub grown_hand : Table → ℕ → ℕ → SeatHand
grown_hand t j code = record { hand = with_card (waiting_hand_of t j).hand (card_ahead t 0); origin = (waiting_hand_of t j).origin; ended = code }

-- A guest's money once the hand h has its card: so many more stakes laid, and the prize of that hand won, each by the guest's own stake (request 2.8).
abbrev pub card_money : Options → ℕ → Played → Money → Money
card_money o times h m = with_purse m (m.purse - times * m.stake + prize o m.stake h)

-- Each guest of the seat lays so many more stakes, its hand takes the next card, and the prizes of that hand go from tray to purses.
unfoldable pub card_effect : ℕ → ℕ → Table → ℕ → Table
card_effect times code t j =
    let h = grown_hand t j code in
    let s = map_guests (card_money t.options times (played_of h)) (seat_at t j) in
    make_table t.options (t.tray - over_guests (λ g. prize t.options (stake g) (played_of h)) (seat_at t j))
    (set t.seats j (make_seat s.money s.others (record { places = set s.hands.places (waiting_place_of t j) h; many = s.hands.many }) s.first))
    t.bank (with_drawn t.shoe 1)
