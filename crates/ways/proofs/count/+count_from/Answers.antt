-- What close says of the table decides; each decision that is accepted begins as many lists as there are from the table after it.
use Rattle.std.proofs.Common.{◌≡◌, ◌-◌, ◌<◌, ℕ, [], length, refl, sym, ap, ◌∙◌, arith}
use native.Mathlib.Nat.{add-zero}
use lib.ListN.{get_or}
use Rattle.call.specs.declared.Call.TheVariants.{Close}
use Rattle.call.specs.Refusal.{number_of}
use Rattle.call.proofs.Refusals.{refusal_some}
use Rattle.engine.specs.Step.{number}
use Rattle.lists.specs.Sum.{sum_of}
use Rattle.ways.specs.Decisions.{decision_kinds}
use Rattle.ways.specs.Ways.{ways_from}
use Rattle.ways.proofs.Turns.{ok_number, err_number, decided-begun, refused-none}
use Rattle.ways.proofs.Counting.{begun, ended, stuck, spent, begun_fit, sum-next, sum-all}
use Rattle.ways.proofs.count.+count_from.Goals as goal
use Rattle.ways.proofs.count.+count_from.Goals.{then-is_ok, else-is_ok}

pub returns-in-Ok : goal.returns-in-Ok
returns-in-Ok t c = let a = c.args in sym (ap length (ended a.at a.t.now a.left (sym c.in-Ok.ensures)))

pub returns-in-Err : goal.returns-in-Err
returns-in-Err t c =
    let a = c.args in
    let some : number a.t.now Close [] ≡ 0 → ⊥ = λ e. refusal_some c.in-Err.field-0 (c.in-Err.ensures ∙ e) in
    let other : number_of c.in-Err.field-0 ≡ 7 → ⊥ = λ e. grind arith in
    sym (ap length (stuck a.at a.t.now a.left some (λ e. other (c.in-Err.ensures ∙ e))))

pub returns-then-left-eq0 : goal.returns-then-left-eq0
returns-then-left-eq0 t c =
    let a = c.args in
    sym (ap (λ (n : ℕ). length (ways_from n a.at a.t.now)) c.if-left-eq0.true ∙ ap length (spent a.at a.t.now (sym c.in-Err-HandWaits.ensures ∙ ap number_of c.in-Err-HandWaits.field-0-is)))

pub loop-kind-init : goal.loop-kind-init
unfolding sum_of
loop-kind-init t c = refl

pub overflow_add-all : goal.overflow_add-all
overflow_add-all t c =
    let a = c.args in
    let i = c.loop-kind.kind-index in
    let kind = get_or decision_kinds i 0 in
    let accept = ok_number c.decide.result c.decide.ensures.number (sym c.is_ok.ensures.value ∙ c.if-is_ok.true) in
    let one = c.count_from-all.ensures ∙ decided-begun a.t.now a.at kind (a.left - 1) i refl c.decide.new.t accept c.decide.ensures.after in
    omega (arith, c.loop-kind.invariant, one, begun_fit a.at a.t.now (a.left - 1) i (omega (arith, c.requires.few)) (omega arith) (sym c.in-Err-HandWaits.ensures ∙ ap number_of c.in-Err-HandWaits.field-0-is))

pub loop-kind-preserved : goal.loop-kind-preserved
loop-kind-preserved t c =
    let a = c.args in
    let i = c.loop-kind.kind-index in
    let kind = get_or decision_kinds i 0 in
    let all = c.loop-kind.all in
    let each = begun (a.left - 1) a.at a.t.now in
    elim c.if-is_ok.branch [
      | then-is_ok w ↦
          let accept = ok_number c.decide.result c.decide.ensures.number (sym c.is_ok.ensures.value ∙ w.if-is_ok.true) in
          let one = decided-begun a.t.now a.at kind (a.left - 1) i refl c.decide.new.t accept c.decide.ensures.after in
          sum-next each i all w.count_from-all.result c.if-is_ok.all (omega arith) c.loop-kind.invariant (w.count_from-all.ensures ∙ one) w.all-is
      | else-is_ok w ↦
          let some = err_number c.decide.result c.decide.ensures.number (sym c.is_ok.ensures.value ∙ w.if-is_ok.false) in
          let none = refused-none a.t.now a.at kind (a.left - 1) i refl some in
          sum-next each i all 0 c.if-is_ok.all (omega arith) c.loop-kind.invariant (sym none) (w.all-is ∙ sym (add-zero all))
    ]

pub returns : goal.returns
returns t c =
    let a = c.args in
    let some : 0 < a.left = omega arith in
    let done : c.loop-kind.kind-index ≡ 6 = omega arith in
    sum-all a.at a.t.now a.left c.loop-kind.kind-index c.loop-kind.all (sym c.in-Err-HandWaits.ensures ∙ ap number_of c.in-Err-HandWaits.field-0-is) some done c.loop-kind.invariant
