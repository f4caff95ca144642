-- Document 01, "The seventeen calls", for one guest at a seat: what an accepted call does and shows. Only the seated guest's money moves; the others' places stay as they are.
use Rattle.std.specs.Prelude.{List, ◌∷◌, [], map, ℕ, ◌+◌, ◌-◌, set}
use Rattle.lists.specs.Sum.{sum_of}
use Rattle.call.specs.declared.Call.{Call}
use Rattle.call.specs.declared.Call.TheVariants.{Fill, Credit, Buy, Cash, Stake, Deal, Insure, Stand, Draw, Double, Split, Surrender, Even, Five, Close, Void, Load, Side}
use Rattle.call.specs.Answer.{Shown}
use Rattle.cards.specs.Hand.{empty_hand}
use Rattle.cards.specs.Score.{hand_score}
use Rattle.rules.specs.SeatHand.{played_of, not_ended, by_double}
use Rattle.payment.specs.Prize.{prize}
use Rattle.table.specs.declared.Money.{Money}
use Rattle.table.specs.declared.Seat.{Seat}
use Rattle.table.specs.declared.Table.{Table}
use Rattle.table.specs.Guest.{holding, with_purse, staking, insuring, siding}
use Rattle.table.specs.Seat.{make_seat, with_money, empty_hands, purse, stake, laid, prizes}
use Rattle.table.specs.Shoe.{with_drawn, discard_drawn}
use Rattle.table.specs.Table.{make_table, with_seat, seat_at}
use Rattle.decisions_spec.specs.Turn.{waiting_place_of}
use Rattle.decisions_spec.specs.Card.{card_ahead, grown_hand}
use Rattle.decisions_spec.specs.Split.{pair_card_of, split_hand, split_places, split_first}
use Rattle.close_spec.specs.BankDraw.{bank_at_close, close_takes}
use Rattle.close_spec.specs.Close.{close_score, guest_back}
use Rattle.engine.specs.Step.{effect}
use Rattle.one_guest.specs.Money.{prizes_one, lines_one}

-- The table with other money of the guest at that seat.
abbrev pub money_one : Table → ℕ → Money → Table
money_one t j m = with_seat t j (with_money (seat_at t j) m)

-- A draw or a double: the guest lays `more`, the hand takes the next card, and its prize goes from tray to purse.
unfoldable pub card_one : ℕ → ℕ → Table → ℕ → Table
card_one more code t j =
    let s = seat_at t j in
    let h = grown_hand t j code in
    let won = prize t.options (stake s) (played_of h) in
    make_table t.options (t.tray - won)
    (set t.seats j
    (make_seat (with_purse s.money (purse s - more + won)) s.others (record { places = set s.hands.places (waiting_place_of t j) h; many = s.hands.many }) s.first))
    t.bank (with_drawn t.shoe 1)

-- A split: the guest lays the stake again for the new hand.
unfoldable pub split_one : Table → ℕ → Table
split_one t j =
    let s = seat_at t j in
    let parent = split_hand (pair_card_of t j 0) (card_ahead t 0) in
    let new = split_hand (pair_card_of t j 1) (card_ahead t 1) in
    make_table t.options t.tray
    (set t.seats j
    (make_seat (with_purse s.money (purse s - stake s)) s.others
    (record { places = split_places s.hands.places (waiting_place_of t j) parent new; many = s.hands.many + 1 })
    (split_first s (card_ahead t 0))))
    t.bank (with_drawn t.shoe 2)

-- A seat at the end of a round, with this purse of its guest.
abbrev pub ended_one : Seat → ℕ → Seat
ended_one s purse = make_seat (holding purse) s.others empty_hands (0 ∷ 0 ∷ 0 ∷ [])

unfoldable pub close_one : Table → Table
close_one t =
    make_table t.options (t.tray + sum_of laid t.seats - sum_of (guest_back t.options (close_score t)) t.seats)
    (map (λ s. ended_one s (purse s + guest_back t.options (close_score t) s)) t.seats)
    empty_hand
    (discard_drawn (with_drawn t.shoe (close_takes t)))

unfoldable pub void_one : Table → Table
void_one t =
    make_table t.options (t.tray + prizes_one t) (map (λ s. ended_one s (purse s + laid s - prizes t.options s)) t.seats) empty_hand (discard_drawn t.shoe)

-- What an accepted call does. Calls that move no guest's money, and a deal, do what they do.
abbrev pub effect_one : Table → Call → List ℕ → Table
effect_one t (Fill n) order = effect t (Fill n) order
effect_one t (Credit n) order = effect t (Credit n) order
effect_one t (Buy at n) order = money_one t at.seat (with_purse (seat_at t at.seat).money (purse (seat_at t at.seat) + n))
effect_one t (Cash at n) order = money_one t at.seat (with_purse (seat_at t at.seat).money (purse (seat_at t at.seat) - n))
effect_one t (Stake at n) order = money_one t at.seat (staking (seat_at t at.seat).money n)
effect_one t Deal order = effect t Deal order
effect_one t (Insure at n) order = money_one t at.seat (insuring (seat_at t at.seat).money n)
effect_one t (Stand at) order = effect t (Stand at) order
effect_one t (Draw at) order = card_one 0 not_ended t at.seat
effect_one t (Double at) order = card_one (stake (seat_at t at.seat)) by_double t at.seat
effect_one t (Split at) order = split_one t at.seat
effect_one t (Surrender at) order = effect t (Surrender at) order
effect_one t (Even at) order = effect t (Even at) order
effect_one t (Five at) order = effect t (Five at) order
effect_one t Close order = close_one t
effect_one t Void order = void_one t
effect_one t Load order = effect t Load order
effect_one t (Side at k n) order = money_one t at.seat (siding (seat_at t at.seat).money k n)

-- What close shows: the bank's cards and score, and the lines of the seated guests.
unfoldable pub close_shown_one : Table → Shown
close_shown_one t = record { bank = bank_at_close t; lines = lines_one t.options (close_score t) 0 t.seats; scores = hand_score (bank_at_close t) ∷ [] }
