-- Document 01, "Who can bring about which number", for one guest at a seat: each call's numbers in their order, without those of positions (22, 23, and 10 of a stake), and with
-- 15 asked of the seated guest alone. Calls that ask nothing of a guest's money are asked as they are.
use Rattle.std.specs.Prelude.{not, List, [], ◌∷◌, ◌++◌, ℕ, leb, ltb, eqb, length}
use Rattle.call.specs.declared.Call.{Call}
use Rattle.call.specs.declared.Call.TheVariants.{Fill, Credit, Buy, Cash, Stake, Deal, Insure, Stand, Draw, Double, Split, Surrender, Even, Five, Close, Void, Load, Side}
use Rattle.call.specs.Refusal.{Condition}
use Rattle.cards.specs.Card.{is_ace}
use Rattle.cards.specs.Hand.{cards_of}
use Rattle.cards.specs.Pair.{is_pair}
use Rattle.options.specs.Permitted.{stake_permitted, insurance_permitted, side_permitted}
use Rattle.payment.specs.Bets.{side}
use Rattle.rules.specs.Turn.{turn_seat, seat_waits}
use Rattle.rules.specs.Permits.{permits_draw, permits_double}
use Rattle.rules.specs.Leaving.{permits_even, permits_five}
use Rattle.table.specs.declared.Table.{Table}
use Rattle.table.specs.Seat.{purse, stake, insurance, sides, is_staked, hands}
use Rattle.table.specs.Table.{seat_at, up, seats_hands, some_staked, cards_left}
use Rattle.table.specs.Progress.{any_drew, any_decided}
use Rattle.table.specs.Broken.{broken}
use Rattle.answer.specs.Conditions.{between_rounds, in_round, seat_conditions}
use Rattle.cashier_spec.specs.Credit.{credit_conditions}
use Rattle.cashier_spec.specs.Load.{load_conditions}
use Rattle.cashier_spec.specs.Side.{is_side_kind}
use Rattle.deal_spec.specs.Deal.{deal_takes, load_due}
use Rattle.decisions_spec.specs.Turn.{waiting_hand_of, may_take}
use Rattle.close_spec.specs.Close.{close_conditions}
use Rattle.close_spec.specs.Void.{void_conditions}
use Rattle.one_guest.specs.Money.{past_most_one, cover_one}

-- What the six decisions in turn share.
abbrev pub turn_one : Table → ℕ → List Condition
turn_one t j = seat_conditions (in_round t) t j ++ (10, not (is_staked (seat_at t j))) ∷ (11, not (eqb (turn_seat t.options (up t) (seats_hands t)) j)) ∷ []

abbrev pub conditions_one : Table → Call → List ℕ → List Condition
conditions_one t (Fill n) order = (1, broken t) ∷ between_rounds t ∷ (14, eqb n 0) ∷ (14, past_most_one t n) ∷ []
conditions_one t (Credit n) order = credit_conditions t n
conditions_one t (Buy at n) order = seat_conditions (between_rounds t) t at.seat ++ (14, eqb n 0) ∷ (14, past_most_one t n) ∷ []
conditions_one t (Cash at n) order = seat_conditions (between_rounds t) t at.seat ++ (14, eqb n 0) ∷ (15, ltb (purse (seat_at t at.seat)) n) ∷ []
conditions_one t (Stake at n) order =
    seat_conditions (between_rounds t) t at.seat
    ++ (9, is_staked (seat_at t at.seat))
    ∷ (14, eqb n 0)
    ∷ (14, not (stake_permitted t.options n))
    ∷ (15, ltb (purse (seat_at t at.seat)) n)
    ∷ []
conditions_one t Deal order =
    (1, broken t)
    ∷ between_rounds t
    ∷ (6, not (some_staked t))
    ∷ (16, ltb t.tray (cover_one t))
    ∷ (17, load_due t.options t.shoe)
    ∷ (17, leb (cards_left t) t.options.cut)
    ∷ (17, ltb (cards_left t) (deal_takes t))
    ∷ []
conditions_one t (Insure at n) order =
    seat_conditions (in_round t) t at.seat
    ++ (9, ltb 0 (insurance (seat_at t at.seat)))
    ∷ (10, not (is_staked (seat_at t at.seat)))
    ∷ (12, any_decided t)
    ∷ (13, not (is_ace (up t)))
    ∷ (14, eqb n 0)
    ∷ (14, not (insurance_permitted t.options (stake (seat_at t at.seat)) n))
    ∷ (15, ltb (purse (seat_at t at.seat)) n)
    ∷ []
conditions_one t (Stand at) order = turn_one t at.seat
conditions_one t (Draw at) order = turn_one t at.seat ++ (13, not (may_take permits_draw t at.seat)) ∷ (18, ltb (cards_left t) 1) ∷ []
conditions_one t (Double at) order =
    turn_one t at.seat
    ++ (13, not (may_take permits_double t at.seat))
    ∷ (15, ltb (purse (seat_at t at.seat)) (stake (seat_at t at.seat)))
    ∷ (18, ltb (cards_left t) 1)
    ∷ []
conditions_one t (Split at) order =
    turn_one t at.seat
    ++ (19, not (is_pair (cards_of (waiting_hand_of t at.seat).hand)))
    ∷ (20, leb t.options.hands (length (hands (seat_at t at.seat))))
    ∷ (15, ltb (purse (seat_at t at.seat)) (stake (seat_at t at.seat)))
    ∷ (18, ltb (cards_left t) 2)
    ∷ []
conditions_one t (Surrender at) order =
    seat_conditions (in_round t) t at.seat
    ++ (10, not (is_staked (seat_at t at.seat)))
    ∷ (12, any_drew t)
    ∷ (12, not (seat_waits t.options (up t) (hands (seat_at t at.seat))))
    ∷ (13, is_ace (up t))
    ∷ []
conditions_one t (Even at) order = turn_one t at.seat ++ (13, not (may_take permits_even t at.seat)) ∷ []
conditions_one t (Five at) order = turn_one t at.seat ++ (13, not (may_take permits_five t at.seat)) ∷ []
conditions_one t Close order = close_conditions t
conditions_one t Void order = void_conditions t
conditions_one t Load order = load_conditions t order
conditions_one t (Side at k n) order =
    seat_conditions (between_rounds t) t at.seat
    ++ (21, not (is_side_kind k))
    ∷ (9, ltb 0 (side (sides (seat_at t at.seat)) k))
    ∷ (10, not (is_staked (seat_at t at.seat)))
    ∷ (14, not (side_permitted n))
    ∷ (15, ltb (purse (seat_at t at.seat)) n)
    ∷ []
