-- Every accepted call keeps a table good, and any sound table sound, a line for each of them; no call changes the options.
use mathlib.Core.Path.{◌≡◌, refl}
use mathlib.Core.List.{List, ◌∷◌}
use Prim.Native.Nat.{ℕ}
use Rattle.call.specs.declared.Call.{Call}
use Rattle.call.specs.declared.Call.TheVariants.{Fill, Credit, Buy, Cash, Stake, Side, Deal, Insure, Stand, Draw, Double, Split, Surrender, Even, Five, Close, Void, Load}
use Rattle.call.specs.Refusal.{first}
use Rattle.table.specs.declared.Table.{Table}
use Rattle.table.specs.Shape.{Shaped}
use Rattle.table.specs.Aids.Sound.{Sound}
use Rattle.history.specs.Entry.{Entry}
use Rattle.history.specs.Aids.MakeEntry.{entry}
use Rattle.agreement.specs.Aids.Agrees.{Good}
use Rattle.cashier_spec.specs.Fill.{fill_effect}
use Rattle.cashier_spec.specs.Credit.{credit_effect}
use Rattle.cashier_spec.specs.Buy.{buy_effect}
use Rattle.cashier_spec.specs.Cash.{cash_effect}
use Rattle.cashier_spec.specs.Load.{load_effect}
use Rattle.cashier_spec.specs.Stake.{stake_effect}
use Rattle.cashier_spec.specs.Side.{side_effect}
use Rattle.cashier_spec.proofs.Fill.{fill-kept, fill_good}
use Rattle.cashier_spec.proofs.Credit.{credit-kept, credit_good}
use Rattle.cashier_spec.proofs.Buy.{buy-kept, buy_good}
use Rattle.cashier_spec.proofs.Cash.{cash-kept, cash_good}
use Rattle.cashier_spec.proofs.Load.{load_kept, load_good}
use Rattle.cashier_spec.proofs.Stake.{stake-kept, stake_good}
use Rattle.cashier_spec.proofs.Side.{side-kept, side_good}
use Rattle.deal_spec.specs.Deal.{deal_effect}
use Rattle.close_spec.specs.Void.{void_effect}
use Rattle.deal_spec.proofs.Deal.{deal-kept, deal_good}
use Rattle.close_spec.proofs.Void.{void-kept, void_good}
use Rattle.decisions_spec.specs.Insure.{insure_effect}
use Rattle.decisions_spec.specs.Surrender.{surrender_effect}
use Rattle.decisions_spec.specs.Turn.{end_effect}
use Rattle.decisions_spec.specs.Card.{card_effect}
use Rattle.decisions_spec.specs.Split.{split_effect}
use Rattle.decisions_spec.proofs.Decision.{decision-kept, decision_good}
use Rattle.decisions_spec.proofs.Insure.{insure-kept, insure_good}
use Rattle.decisions_spec.proofs.Stand.{stand_decides}
use Rattle.decisions_spec.proofs.Even.{even_decides}
use Rattle.decisions_spec.proofs.Five.{five_decides}
use Rattle.decisions_spec.proofs.Surrender.{surrender_decides}
use Rattle.decisions_spec.proofs.Draw.{draw_decides}
use Rattle.decisions_spec.proofs.Double.{double_decides}
use Rattle.decisions_spec.proofs.Split.{split_decides}
use Rattle.close_spec.specs.Close.{close_effect}
use Rattle.close_spec.proofs.Close.{close-kept, close_good}
use Rattle.engine.specs.Step.{conditions, effect}

pub step_good : (opening : List ℕ) (es : List Entry) (t : Table) (c : Call) (order : List ℕ) → Good opening es t → first (conditions t c order) ≡ 0
    → Good opening (entry c order ∷ es) (effect t c order)
step_good opening es t (Fill n) order g e = fill_good opening es t n order g e
step_good opening es t (Credit n) order g e = credit_good opening es t n order g e
step_good opening es t (Buy at n) order g e = buy_good opening es t at n order g e
step_good opening es t (Cash at n) order g e = cash_good opening es t at n order g e
step_good opening es t (Stake at n) order g e = stake_good opening es t at n order g e
step_good opening es t (Side at k n) order g e = side_good opening es t at k n order g e
step_good opening es t Deal order g e = deal_good opening es t order g e
step_good opening es t (Insure at n) order g e = insure_good opening es t at n order g e
step_good opening es t (Stand at) order g e = decision_good t _ _ (stand_decides t at order g.shaped g.sound e) opening es g
step_good opening es t (Draw at) order g e = decision_good t _ _ (draw_decides t at order g.shaped g.sound e) opening es g
step_good opening es t (Double at) order g e = decision_good t _ _ (double_decides t at order g.shaped g.sound e) opening es g
step_good opening es t (Split at) order g e = decision_good t _ _ (split_decides t at order g.shaped g.sound e) opening es g
step_good opening es t (Surrender at) order g e = decision_good t _ _ (surrender_decides t at order g.shaped g.sound e) opening es g
step_good opening es t (Even at) order g e = decision_good t _ _ (even_decides t at order g.shaped g.sound e) opening es g
step_good opening es t (Five at) order g e = decision_good t _ _ (five_decides t at order g.shaped g.sound e) opening es g
step_good opening es t Close order g e = close_good opening es t order g e
step_good opening es t Void order g e = void_good opening es t order g e
step_good opening es t Load order g e = load_good opening es t order g e

-- on any sound table, reached or not
pub step_kept : (t : Table) (c : Call) (order : List ℕ) → Shaped t → Sound t → first (conditions t c order) ≡ 0 → Shaped (effect t c order) × Sound (effect t c order)
step_kept t (Fill n) order shaped sound e = fill-kept t n shaped sound e
step_kept t (Credit n) order shaped sound e = credit-kept t n shaped sound e
step_kept t (Buy at n) order shaped sound e = buy-kept t at.seat at.position n shaped sound e
step_kept t (Cash at n) order shaped sound e = cash-kept t at.seat at.position n shaped sound e
step_kept t (Stake at n) order shaped sound e = stake-kept t at.seat at.position n shaped sound e
step_kept t (Side at k n) order shaped sound e = side-kept t at.seat at.position k n shaped sound e
step_kept t Deal order shaped sound e = deal-kept t shaped sound e
step_kept t (Insure at n) order shaped sound e = insure-kept t at.seat at.position n shaped sound e
step_kept t (Stand at) order shaped sound e = decision-kept t _ _ (stand_decides t at order shaped sound e) shaped sound
step_kept t (Draw at) order shaped sound e = decision-kept t _ _ (draw_decides t at order shaped sound e) shaped sound
step_kept t (Double at) order shaped sound e = decision-kept t _ _ (double_decides t at order shaped sound e) shaped sound
step_kept t (Split at) order shaped sound e = decision-kept t _ _ (split_decides t at order shaped sound e) shaped sound
step_kept t (Surrender at) order shaped sound e = decision-kept t _ _ (surrender_decides t at order shaped sound e) shaped sound
step_kept t (Even at) order shaped sound e = decision-kept t _ _ (even_decides t at order shaped sound e) shaped sound
step_kept t (Five at) order shaped sound e = decision-kept t _ _ (five_decides t at order shaped sound e) shaped sound
step_kept t Close order shaped sound e = close-kept t shaped sound e
step_kept t Void order shaped sound e = void-kept t shaped sound
step_kept t Load order shaped sound e = load_kept t order shaped sound e

pub step_options : (t : Table) (c : Call) (order : List ℕ) → (effect t c order).options ≡ t.options
unfolding fill_effect credit_effect buy_effect cash_effect stake_effect side_effect deal_effect insure_effect end_effect card_effect split_effect surrender_effect close_effect void_effect load_effect
step_options t (Fill n) order = refl
step_options t (Credit n) order = refl
step_options t (Buy at n) order = refl
step_options t (Cash at n) order = refl
step_options t (Stake at n) order = refl
step_options t (Side at k n) order = refl
step_options t Deal order = refl
step_options t (Insure at n) order = refl
step_options t (Stand at) order = refl
step_options t (Draw at) order = refl
step_options t (Double at) order = refl
step_options t (Split at) order = refl
step_options t (Surrender at) order = refl
step_options t (Even at) order = refl
step_options t (Five at) order = refl
step_options t Close order = refl
step_options t Void order = refl
step_options t Load order = refl
