-- Request 2.1: which scores a call shows. Deal one for each staked seat, from the lowest; draw and double one for their hand; split one for the parent, then one
-- for the new hand; close one for the bank; every other call none. Those of hands are read off the table that the call leaves.
use Rattle.std.specs.Prelude.{List, [], ◌∷◌, map, ℕ, suc}
use Rattle.call.specs.declared.Call.{Call}
use Rattle.call.specs.declared.Call.TheVariants.{Fill, Credit, Buy, Cash, Stake, Deal, Insure, Stand, Draw, Double, Split, Surrender, Even, Five, Close, Void, Load, Side}
use Rattle.lists.specs.Tests.{those}
use Rattle.cards.specs.declared.score.HandScore.{HandScore}
use Rattle.cards.specs.Hand.{cards_of}
use Rattle.cards.specs.Score.{hand_score}
use Rattle.table.specs.declared.Seat.{Seat}
use Rattle.table.specs.declared.Table.{Table}
use Rattle.table.specs.Seat.{is_staked}
use Rattle.table.specs.Table.{seat_at}
use Rattle.decisions_spec.specs.Place.{place_of}
use Rattle.decisions_spec.specs.Turn.{waiting_place_of}

-- The score of the hand in a place of a seat.
abbrev pub place_score : Seat → ℕ → HandScore
place_score s p = hand_score (cards_of (place_of s p).hand)

abbrev pub deal_scores : Table → List HandScore
deal_scores after = map (λ s. place_score s 0) (those is_staked after.seats)

-- The hand of draw and double is the one whose turn it was on the table t before the call.
abbrev pub card_scores : Table → ℕ → Table → List HandScore
card_scores t j after = place_score (seat_at after j) (waiting_place_of t j) ∷ []

abbrev pub split_scores : Table → ℕ → Table → List HandScore
split_scores t j after = place_score (seat_at after j) (waiting_place_of t j) ∷ place_score (seat_at after j) (suc (waiting_place_of t j)) ∷ []

-- The scores of hands that a call shows.
abbrev pub hand_scores : Table → Call → Table → List HandScore
hand_scores t (Fill n) after = []
hand_scores t (Credit n) after = []
hand_scores t (Buy at n) after = []
hand_scores t (Cash at n) after = []
hand_scores t (Stake at n) after = []
hand_scores t Deal after = deal_scores after
hand_scores t (Insure at n) after = []
hand_scores t (Stand at) after = []
hand_scores t (Draw at) after = card_scores t at.seat after
hand_scores t (Double at) after = card_scores t at.seat after
hand_scores t (Split at) after = split_scores t at.seat after
hand_scores t (Surrender at) after = []
hand_scores t (Even at) after = []
hand_scores t (Five at) after = []
hand_scores t Close after = []
hand_scores t Void after = []
hand_scores t Load after = []
hand_scores t (Side at k n) after = []
