-- No condition but those of close reads a card that nobody sees: of two tables that differ in such cards, neither broken, every other call has the same number.
use mathlib.Core.Path.{◌≡◌, sym}
use mathlib.Core.Bool.{true, true≢false}
use mathlib.Core.List.{List}
use Prim.Native.Nat.{ℕ}
use Rattle.call.specs.declared.Call.{Call}
use Rattle.call.specs.declared.Call.TheVariants.{Fill, Credit, Buy, Cash, Stake, Deal, Insure, Stand, Draw, Double, Split, Surrender, Even, Five, Close, Void, Load, Side}
use Rattle.cards.specs.declared.hand.Hand.{Hand}
use Rattle.table.specs.declared.Table.{Table}
use Rattle.table.specs.Broken.{sound}
use Rattle.table.specs.Shoe.{burns_first}
use Rattle.table.specs.Progress.{any_drew, any_decided}
use Rattle.answer.specs.Conditions.{seat_conditions, guest_conditions}
use Rattle.cashier_spec.specs.Fill.{fill_conditions}
use Rattle.cashier_spec.specs.Credit.{credit_conditions}
use Rattle.cashier_spec.specs.Buy.{buy_conditions}
use Rattle.cashier_spec.specs.Cash.{cash_conditions}
use Rattle.cashier_spec.specs.Load.{load_conditions}
use Rattle.cashier_spec.specs.Side.{side_conditions}
use Rattle.cashier_spec.specs.Stake.{stake_conditions}
use Rattle.deal_spec.specs.Burn.{burn_at_deal}
use Rattle.deal_spec.specs.Deal.{deal_takes, load_due, deal_conditions}
use Rattle.close_spec.specs.Void.{void_conditions}
use Rattle.decisions_spec.specs.Insure.{insure_conditions}
use Rattle.decisions_spec.specs.Surrender.{surrender_conditions}
use Rattle.decisions_spec.specs.Turn.{turn_conditions}
use Rattle.decisions_spec.specs.Draw.{draw_conditions}
use Rattle.decisions_spec.specs.Double.{double_conditions}
use Rattle.decisions_spec.specs.Split.{split_conditions}
use Rattle.decisions_spec.specs.Even.{even_conditions}
use Rattle.decisions_spec.specs.Five.{five_conditions}
use Rattle.engine.specs.Step.{conditions}
use Rattle.secret.proofs.Veil.{veil, BanksAlike}
use Rattle.secret.proofs.Plain.{is_plain}

module _ (t : Table) (bank : Hand) (order discards : List ℕ) (alike : BanksAlike t.bank bank) (same : sound (veil bank order discards t) ≡ sound t) where
  pub conditions-same : (c : Call) (lent : List ℕ) → is_plain c ≡ true → conditions (veil bank order discards t) c lent ≡ conditions t c lent
  unfolding fill_conditions credit_conditions seat_conditions guest_conditions buy_conditions cash_conditions stake_conditions side_conditions insure_conditions turn_conditions draw_conditions double_conditions split_conditions surrender_conditions even_conditions five_conditions void_conditions any_drew any_decided
  conditions-same (Fill n) lent plain = simp (same, alike.many)
  conditions-same (Credit n) lent plain = simp (same, alike.many)
  conditions-same (Buy at n) lent plain = simp (same, alike.many)
  conditions-same (Cash at n) lent plain = simp (same, alike.many)
  conditions-same (Stake at n) lent plain = simp (same, alike.many)
  conditions-same Deal lent plain = absurd (true≢false (sym plain))
  conditions-same (Insure at n) lent plain = simp (same, alike.many, alike.up)
  conditions-same (Stand at) lent plain = simp (same, alike.many, alike.up)
  conditions-same (Draw at) lent plain = simp (same, alike.many, alike.up)
  conditions-same (Double at) lent plain = simp (same, alike.many, alike.up)
  conditions-same (Split at) lent plain = simp (same, alike.many, alike.up)
  conditions-same (Surrender at) lent plain = simp (same, alike.many, alike.up)
  conditions-same (Even at) lent plain = simp (same, alike.many, alike.up)
  conditions-same (Five at) lent plain = simp (same, alike.many, alike.up)
  conditions-same Close lent plain = absurd (true≢false (sym plain))
  conditions-same Void lent plain = simp same
  conditions-same Load lent plain = absurd (true≢false (sym plain))
  conditions-same (Side at k n) lent plain = simp (same, alike.many)

  pub deal_conditions-same : deal_conditions (veil bank order discards t) ≡ deal_conditions t
  unfolding deal_conditions burns_first burn_at_deal deal_takes load_due
  deal_conditions-same = simp (same, alike.many)

  pub load_conditions-same : (lent : List ℕ) → load_conditions (veil bank order discards t) lent ≡ load_conditions t lent
  unfolding load_conditions
  load_conditions-same lent = simp (same, alike.many)
