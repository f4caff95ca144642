-- Every call on a broken table answers 1, and the empty table is broken.
use mathlib.Core.Path.{◌≡◌, refl}
use mathlib.Core.Bool.{true}
use mathlib.Core.List.{List}
use Prim.Native.Nat.{ℕ}
use Rattle.lists.specs.Tests.{all_of}
use Rattle.call.specs.declared.Call.{Call}
use Rattle.call.specs.declared.Call.TheVariants.{Fill, Credit, Buy, Cash, Stake, Deal, Insure, Stand, Draw, Double, Split, Surrender, Even, Five, Close, Void, Load, Side}
use Rattle.call.specs.Refusal.{first}
use Rattle.options.specs.Ranges.{ranges, in_range}
use Rattle.table.specs.declared.Table.{Table}
use Rattle.table.specs.Broken.{sound, broken}
use Rattle.cashier_spec.specs.Opening.{empty_table}
use Rattle.cashier_spec.specs.Fill.{fill_conditions}
use Rattle.cashier_spec.specs.Credit.{credit_conditions}
use Rattle.answer.specs.Conditions.{seat_conditions, guest_conditions}
use Rattle.cashier_spec.specs.Buy.{buy_conditions}
use Rattle.cashier_spec.specs.Cash.{cash_conditions}
use Rattle.cashier_spec.specs.Load.{load_conditions}
use Rattle.cashier_spec.specs.Side.{side_conditions}
use Rattle.cashier_spec.specs.Stake.{stake_conditions}
use Rattle.deal_spec.specs.Deal.{deal_conditions}
use Rattle.close_spec.specs.Void.{void_conditions}
use Rattle.decisions_spec.specs.Insure.{insure_conditions}
use Rattle.decisions_spec.specs.Surrender.{surrender_conditions}
use Rattle.decisions_spec.specs.Turn.{turn_conditions}
use Rattle.decisions_spec.specs.Draw.{draw_conditions}
use Rattle.decisions_spec.specs.Double.{double_conditions}
use Rattle.decisions_spec.specs.Split.{split_conditions}
use Rattle.decisions_spec.specs.Even.{even_conditions}
use Rattle.decisions_spec.specs.Five.{five_conditions}
use Rattle.close_spec.specs.Close.{close_conditions}
use Rattle.answer.specs.Reply.{reply_by}
use Rattle.engine.specs.Step.{number, step}

pub broken-one : (t : Table) → broken t ≡ true → (c : Call) (order : List ℕ) → number t c order ≡ 1
unfolding number first fill_conditions credit_conditions seat_conditions guest_conditions buy_conditions cash_conditions stake_conditions side_conditions deal_conditions insure_conditions turn_conditions draw_conditions double_conditions split_conditions surrender_conditions even_conditions five_conditions close_conditions void_conditions load_conditions step reply_by
broken-one t b (Fill n) order = simp b
broken-one t b (Credit n) order = simp b
broken-one t b (Buy at n) order = simp b
broken-one t b (Cash at n) order = simp b
broken-one t b (Stake at n) order = simp b
broken-one t b Deal order = simp b
broken-one t b (Insure at n) order = simp b
broken-one t b (Stand at) order = simp b
broken-one t b (Draw at) order = simp b
broken-one t b (Double at) order = simp b
broken-one t b (Split at) order = simp b
broken-one t b (Surrender at) order = simp b
broken-one t b (Even at) order = simp b
broken-one t b (Five at) order = simp b
broken-one t b Close order = simp b
broken-one t b Void order = simp b
broken-one t b Load order = simp b
broken-one t b (Side at k n) order = simp b

pub empty-broken : broken empty_table ≡ true
unfolding sound in_range ranges all_of
empty-broken = refl
