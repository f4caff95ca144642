-- Every call's list stands in the paper's sequence, by its numbers alone; the answer is the first number whose condition holds, by the law of refusals.
use mathlib.Core.Path.{◌≡◌, refl, sym, ◌∙◌}
use mathlib.Core.Bool.{true, false, and-eq-true_iff}
use mathlib.Core.List.{List, [], ◌∷◌}
use Prim.Native.Nat.{ℕ}
use lib.Dec.{ltb}
use borrow.Author.Tests.{ltb-true}
use Rattle.lists.specs.Tests.{any_of, all_of, first_place}
use Rattle.lists.proofs.Tests.{or_eq_false}
use Rattle.call.specs.declared.Call.{Call}
use Rattle.call.specs.declared.Call.TheVariants.{Fill, Credit, Buy, Cash, Stake, Deal, Insure, Stand, Draw, Double, Split, Surrender, Even, Five, Close, Void, Load, Side}
use Rattle.call.specs.Refusal.{Condition, first, holds}
use Rattle.call.proofs.Refusals.{first_says, first_stands, accepted-head, accepted_tail}
use Rattle.table.specs.declared.Table.{Table}
use Rattle.cashier_spec.specs.Fill.{fill_conditions}
use Rattle.cashier_spec.specs.Credit.{credit_conditions}
use Rattle.answer.specs.Conditions.{seat_conditions, guest_conditions}
use Rattle.cashier_spec.specs.Buy.{buy_conditions}
use Rattle.cashier_spec.specs.Cash.{cash_conditions}
use Rattle.cashier_spec.specs.Load.{load_conditions}
use Rattle.cashier_spec.specs.Side.{side_conditions}
use Rattle.cashier_spec.specs.Stake.{stake_conditions}
use Rattle.deal_spec.specs.Deal.{deal_conditions}
use Rattle.close_spec.specs.Void.{void_conditions}
use Rattle.decisions_spec.specs.Insure.{insure_conditions}
use Rattle.decisions_spec.specs.Surrender.{surrender_conditions}
use Rattle.decisions_spec.specs.Turn.{turn_conditions}
use Rattle.decisions_spec.specs.Draw.{draw_conditions}
use Rattle.decisions_spec.specs.Double.{double_conditions}
use Rattle.decisions_spec.specs.Split.{split_conditions}
use Rattle.decisions_spec.specs.Even.{even_conditions}
use Rattle.decisions_spec.specs.Five.{five_conditions}
use Rattle.close_spec.specs.Close.{close_conditions}
use Rattle.answer.specs.Reply.{reply_by}
use Rattle.engine.specs.Step.{conditions, number, step}
use Rattle.engine.specs.LowestFirst.{in_sequence, LowestFirst}

-- no number is 0
numbers : (t : Table) (c : Call) (order : List ℕ) → all_of (λ c. ltb 0 c.0) (conditions t c order) ≡ true
unfolding all_of fill_conditions credit_conditions seat_conditions guest_conditions buy_conditions cash_conditions stake_conditions side_conditions deal_conditions insure_conditions turn_conditions draw_conditions double_conditions split_conditions surrender_conditions even_conditions five_conditions close_conditions void_conditions load_conditions
numbers t (Fill n) order = refl
numbers t (Credit n) order = refl
numbers t (Buy at n) order = refl
numbers t (Cash at n) order = refl
numbers t (Stake at n) order = refl
numbers t Deal order = refl
numbers t (Insure at n) order = refl
numbers t (Stand at) order = refl
numbers t (Draw at) order = refl
numbers t (Double at) order = refl
numbers t (Split at) order = refl
numbers t (Surrender at) order = refl
numbers t (Even at) order = refl
numbers t (Five at) order = refl
numbers t Close order = refl
numbers t Void order = refl
numbers t Load order = refl
numbers t (Side at k n) order = refl

sequenced : (t : Table) (c : Call) (order : List ℕ) → in_sequence 0 (conditions t c order) ≡ true
unfolding in_sequence first_place fill_conditions credit_conditions seat_conditions guest_conditions buy_conditions cash_conditions stake_conditions side_conditions deal_conditions insure_conditions turn_conditions draw_conditions double_conditions split_conditions surrender_conditions even_conditions five_conditions close_conditions void_conditions load_conditions
sequenced t (Fill n) order = refl
sequenced t (Credit n) order = refl
sequenced t (Buy at n) order = refl
sequenced t (Cash at n) order = refl
sequenced t (Stake at n) order = refl
sequenced t Deal order = refl
sequenced t (Insure at n) order = refl
sequenced t (Stand at) order = refl
sequenced t (Draw at) order = refl
sequenced t (Double at) order = refl
sequenced t (Split at) order = refl
sequenced t (Surrender at) order = refl
sequenced t (Even at) order = refl
sequenced t (Five at) order = refl
sequenced t Close order = refl
sequenced t Void order = refl
sequenced t Load order = refl
sequenced t (Side at k n) order = refl

-- the answer is 0 exactly if none holds
none_of : (cs : List Condition) → all_of (λ c. ltb 0 c.0) cs ≡ true → first cs ≡ 0 → any_of holds cs ≡ false
unfolding any_of all_of
none_of [] positive e = refl
none_of ((n, b) ∷ cs) positive e =
    let (here, later) = (and-eq-true_iff (ltb 0 n) (all_of (λ c. ltb 0 c.0) cs)).0 positive in
    simp (accepted-head n b cs (ltb-true 0 n here) e) (none_of cs later (accepted_tail n b cs (ltb-true 0 n here) e))

of_none : (cs : List Condition) → any_of holds cs ≡ false → first cs ≡ 0
unfolding first any_of
of_none [] none = refl
of_none (c ∷ cs) none =
    let (here, later) = or_eq_false (holds c) (any_of holds cs) none in
    rw here (of_none cs later)

-- a step's number is the first of its call's list
number-first : (t : Table) (c : Call) (order : List ℕ) → number t c order ≡ first (conditions t c order)
unfolding number step reply_by
number-first t c order = refl

pub lowest_first : (t : Table) (c : Call) (order : List ℕ) → LowestFirst t c order
lowest_first t c order =
    let cs = conditions t c order in
    record {
      in_sequence_lem = sequenced t c order;
      answer_stands = λ n some e. first_stands cs n some (sym (number-first t c order) ∙ e);
      stands_answered = λ n at. number-first t c order ∙ first_says cs n at;
      accepted_none = λ e. none_of cs (numbers t c order) (sym (number-first t c order) ∙ e);
      none_accepted = λ none. number-first t c order ∙ of_none cs none;
    }
