-- Document 01, "The seventeen calls", and request 2.6: one step. The number is the first whose condition holds; at 0 the effect is the next table, else the table stays.
use Rattle.std.specs.Prelude.{cond, List, ℕ, eqb}
use Rattle.call.specs.declared.Call.{Call}
use Rattle.call.specs.declared.Call.TheVariants.{Fill, Credit, Buy, Cash, Stake, Deal, Insure, Stand, Draw, Double, Split, Surrender, Even, Five, Close, Void, Load, Side}
use Rattle.call.specs.Refusal.{Condition}
use Rattle.call.specs.Call.{kind}
use Rattle.call.specs.Answer.{Shown, scored}
use Rattle.table.specs.declared.Table.{Table}
use Rattle.answer.specs.Reply.{ReplyView, reply_by}
use Rattle.cashier_spec.specs.Fill.{fill_conditions, fill_effect}
use Rattle.cashier_spec.specs.Credit.{credit_conditions, credit_effect}
use Rattle.cashier_spec.specs.Buy.{buy_conditions, buy_effect}
use Rattle.cashier_spec.specs.Cash.{cash_conditions, cash_effect}
use Rattle.cashier_spec.specs.Load.{load_conditions, load_effect}
use Rattle.cashier_spec.specs.Stake.{stake_conditions, stake_effect}
use Rattle.cashier_spec.specs.Side.{side_conditions, side_effect}
use Rattle.deal_spec.specs.Deal.{deal_conditions, deal_effect}
use Rattle.close_spec.specs.Void.{void_conditions, void_effect}
use Rattle.decisions_spec.specs.Insure.{insure_conditions, insure_effect}
use Rattle.decisions_spec.specs.Surrender.{surrender_conditions, surrender_effect}
use Rattle.decisions_spec.specs.Stand.{stand_conditions, stand_effect}
use Rattle.decisions_spec.specs.Draw.{draw_conditions, draw_effect}
use Rattle.decisions_spec.specs.Double.{double_conditions, double_effect}
use Rattle.decisions_spec.specs.Split.{split_conditions, split_effect}
use Rattle.decisions_spec.specs.Even.{even_conditions, even_effect}
use Rattle.decisions_spec.specs.Five.{five_conditions, five_effect}
use Rattle.close_spec.specs.Close.{close_conditions, close_effect, close_shown}
use Rattle.engine.specs.Scores.{hand_scores}

-- A call's conditions on a table, with the order that is lent beside it.
abbrev pub conditions : Table → Call → List ℕ → List Condition
conditions t (Fill n) order = fill_conditions t n
conditions t (Credit n) order = credit_conditions t n
conditions t (Buy at n) order = buy_conditions t at.seat at.position n
conditions t (Cash at n) order = cash_conditions t at.seat at.position n
conditions t (Stake at n) order = stake_conditions t at.seat at.position n
conditions t Deal order = deal_conditions t
conditions t (Insure at n) order = insure_conditions t at.seat at.position n
conditions t (Stand at) order = stand_conditions t at.seat at.position
conditions t (Draw at) order = draw_conditions t at.seat at.position
conditions t (Double at) order = double_conditions t at.seat at.position
conditions t (Split at) order = split_conditions t at.seat at.position
conditions t (Surrender at) order = surrender_conditions t at.seat at.position
conditions t (Even at) order = even_conditions t at.seat at.position
conditions t (Five at) order = five_conditions t at.seat at.position
conditions t Close order = close_conditions t
conditions t Void order = void_conditions t
conditions t Load order = load_conditions t order
conditions t (Side at k n) order = side_conditions t at.seat at.position k n

-- What an accepted call does.
abbrev pub effect : Table → Call → List ℕ → Table
effect t (Fill n) order = fill_effect t n
effect t (Credit n) order = credit_effect t n
effect t (Buy at n) order = buy_effect t at.seat at.position n
effect t (Cash at n) order = cash_effect t at.seat at.position n
effect t (Stake at n) order = stake_effect t at.seat at.position n
effect t Deal order = deal_effect t
effect t (Insure at n) order = insure_effect t at.seat at.position n
effect t (Stand at) order = stand_effect t at.seat
effect t (Draw at) order = draw_effect t at.seat
effect t (Double at) order = double_effect t at.seat
effect t (Split at) order = split_effect t at.seat
effect t (Surrender at) order = surrender_effect t at.seat
effect t (Even at) order = even_effect t at.seat
effect t (Five at) order = five_effect t at.seat
effect t Close order = close_effect t
effect t Void order = void_effect t
effect t Load order = load_effect t order
effect t (Side at k n) order = side_effect t at.seat at.position k n

-- What an accepted call shows, `after` being the table that it leaves: close, the call of kind 15, the bank's cards and score and the pay lines, every other call the scores of its
-- hands.
abbrev pub shown : Table → Call → Table → Shown
shown t c after = cond (eqb (kind c) 15) (close_shown t) (scored (hand_scores t c after))

-- One step: the answer and the next table.
unfoldable pub step : Table → Call → List ℕ → ReplyView
step t c order = reply_by (conditions t c order) (shown t c (effect t c order)) (effect t c order) t

-- Its number, and the table that the next call gets.
unfoldable pub number : Table → Call → List ℕ → ℕ
number t c order = (step t c order).answer.number

unfoldable pub next : Table → Call → List ℕ → Table
next t c order = (step t c order).table
