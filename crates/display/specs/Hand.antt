-- What a display reads of a hand in its place. A broken table, a seat beyond the option and a place with no hand show nothing.
use Rattle.std.specs.Prelude.{cond, ℕ, leb, length, get_or}
use Rattle.cards.specs.declared.hand.Hand.{Hand}
use Rattle.cards.specs.Hand.{cards_of, empty_hand}
use Rattle.cards.specs.declared.score.HandScore.{HandScore}
use Rattle.cards.specs.Score.{hand_score, no_score}
use Rattle.rules.specs.declared.seat_hand.SeatHand.{SeatHand}
use Rattle.rules.specs.SeatHand.{played_of, dealt, not_ended}
use Rattle.payment.specs.Wager.{wager}
use Rattle.table.specs.declared.Seat.{Seat}
use Rattle.table.specs.declared.Table.{Table}
use Rattle.table.specs.Seat.{missing_place, stake, hands}
use Rattle.display.specs.Seat.{guest_or_empty}
use Rattle.display.specs.declared.hand.HandShown.{HandShown}

-- A hand's cards, their total and whether it is soft (request 2.1), its wager, where it comes from and how it ended.
abbrev pub make_hand_shown : Hand → HandScore → ℕ → ℕ → ℕ → HandShown
make_hand_shown hand score wager origin ended = record { hand = hand; total = score.total; soft = score.soft; wager = wager; origin = origin; ended = ended }

-- What is shown where there is no such hand.
abbrev pub no_hand_shown : HandShown
no_hand_shown = make_hand_shown empty_hand no_score 0 dealt not_ended

abbrev pub hand_values : ℕ → SeatHand → HandShown
hand_values stake h = make_hand_shown h.hand (hand_score (cards_of h.hand)) (wager stake (played_of h)) h.origin h.ended

-- The hand in that place of a seat.
unfoldable pub place_shown : Seat → ℕ → HandShown
place_shown s p = cond (leb (length (hands s)) p) no_hand_shown (hand_values (stake s) (get_or s.hands.places p missing_place))

-- With the wager of the guest in position q of the seat (request 2.8).
unfoldable pub hand_shown : Table → ℕ → ℕ → ℕ → HandShown
hand_shown t i q p = place_shown (guest_or_empty t i q) p
