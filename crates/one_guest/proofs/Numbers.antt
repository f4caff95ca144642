-- Each call of a seated guest has the number that the rules for one guest give: 22, 23 and a stake's 10 do not hold, and 15 is asked of that guest alone.
use mathlib.Core.Path.{◌≡◌, refl}
use mathlib.Core.List.{List}
use Prim.Native.Nat.{ℕ}
use Rattle.call.specs.declared.Call.{Call}
use Rattle.call.specs.declared.Call.TheVariants.{Fill, Credit, Buy, Cash, Stake, Deal, Insure, Stand, Draw, Double, Split, Surrender, Even, Five, Close, Void, Load, Side}
use Rattle.call.specs.Call.{position}
use Rattle.call.specs.Refusal.{first}
use Rattle.table.specs.declared.Table.{Table}
use Rattle.table.specs.Table.{seat_at}
use Rattle.table.proofs.Guests.{guest-seated}
use Rattle.answer.specs.Conditions.{seat_conditions, guest_conditions}
use Rattle.cashier_spec.specs.Fill.{fill_conditions}
use Rattle.cashier_spec.specs.Buy.{buy_conditions}
use Rattle.cashier_spec.specs.Cash.{cash_conditions}
use Rattle.cashier_spec.specs.Stake.{stake_conditions}
use Rattle.cashier_spec.specs.Side.{side_conditions}
use Rattle.deal_spec.specs.Deal.{deal_conditions}
use Rattle.decisions_spec.specs.Insure.{insure_conditions}
use Rattle.decisions_spec.specs.Turn.{turn_conditions}
use Rattle.decisions_spec.specs.Draw.{draw_conditions}
use Rattle.decisions_spec.specs.Double.{double_conditions}
use Rattle.decisions_spec.specs.Split.{split_conditions}
use Rattle.decisions_spec.specs.Surrender.{surrender_conditions}
use Rattle.decisions_spec.specs.Even.{even_conditions}
use Rattle.decisions_spec.specs.Five.{five_conditions}
use Rattle.engine.specs.Step.{conditions}
use Rattle.one_guest.specs.Conditions.{conditions_one}
use Rattle.one_guest.specs.AsBefore.{OnlySeated}
use Rattle.one_guest.proofs.Alone.{seated_decides, seated-short}
use Rattle.one_guest.proofs.Sums.{past_one, cover_one_lem}

module _ (t : Table) (only : OnlySeated t) where
  pub same_number : (c : Call) (order : List ℕ) → position c ≡ 0 → first (conditions t c order) ≡ first (conditions_one t c order)
  unfolding first seat_conditions guest_conditions fill_conditions buy_conditions cash_conditions stake_conditions side_conditions deal_conditions insure_conditions turn_conditions draw_conditions double_conditions split_conditions surrender_conditions even_conditions five_conditions
  same_number (Fill n) order e = rw (past_one t only n)
  same_number (Credit n) order e = refl
  same_number (Buy at n) order e = simp (e, past_one t only n)
  same_number (Cash at n) order e = simp (e, guest-seated (seat_at t at.seat))
  same_number (Stake at n) order e = simp (e, guest-seated (seat_at t at.seat))
  same_number Deal order e = rw (cover_one_lem t only)
  same_number (Insure at n) order e = simp (e, guest-seated (seat_at t at.seat))
  same_number (Stand at) order e = rw (seated_decides t only at.seat t.options) (simp (e, guest-seated (seat_at t at.seat)))
  same_number (Draw at) order e = rw (seated_decides t only at.seat t.options) (simp (e, guest-seated (seat_at t at.seat)))
  same_number (Double at) order e = rw (seated_decides t only at.seat t.options, seated-short t only at.seat) (simp (e, guest-seated (seat_at t at.seat)))
  same_number (Split at) order e = rw (seated_decides t only at.seat t.options, seated-short t only at.seat) (simp (e, guest-seated (seat_at t at.seat)))
  same_number (Surrender at) order e = rw (seated_decides t only at.seat t.options) (simp (e, guest-seated (seat_at t at.seat)))
  same_number (Even at) order e = rw (seated_decides t only at.seat t.options) (simp (e, guest-seated (seat_at t at.seat)))
  same_number (Five at) order e = rw (seated_decides t only at.seat t.options) (simp (e, guest-seated (seat_at t at.seat)))
  same_number Close order e = refl
  same_number Void order e = refl
  same_number Load order e = refl
  same_number (Side at k n) order e = simp (e, guest-seated (seat_at t at.seat))
