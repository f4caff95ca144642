-- The decisions are gone through in their order: before each turn the place is the number of lists that begin with one of the first i, and what is left of it. It is inside, so that
-- the loop finds the decision.
use mathlib.Core.Path.{◌≡◌, refl, sym, ◌∙◌, ap}
use Prim.Native.Nat.{ℕ, ◌<◌}
use native.Mathlib.Nat.{zero-add}
use native.Mathlib.Omega.{arith}
use lib.ListN.{length, take, get_or}
use Rattle.lists.specs.Sum.{sum_of}
use Rattle.ways.specs.Decisions.{decision_kinds}
use Rattle.ways.specs.Ways.{ways_from}
use Rattle.ways.proofs.Counting.{begun, goes_length, place-next}
use Rattle.ways.proofs.Turns.{ok_number, err_number, decided-begun, refused-none, decided_goes_on}
use Rattle.ways.proofs.pick.first_decision.Goals as goal
use Rattle.ways.proofs.pick.first_decision.Goals.{then-is_ok+else-rest-many, else-is_ok}

pub loop-kind-init : goal.loop-kind-init
unfolding sum_of
loop-kind-init c = sym (zero-add c.args.place)

pub returns-then-rest-many : goal.returns-then-rest-many
returns-then-rest-many c =
    let a = c.args in
    let i = c.loop-kind.kind-index in
    let accept = ok_number c.decide.result c.decide.ensures.number (sym c.is_ok.ensures.value ∙ c.if-is_ok.true) in
    let rest : c.loop-kind.rest < length (ways_from a.left a.at c.decide.new.t) = omega (arith, c.count_from-many.ensures) in
    decided_goes_on a.t.now a.at (get_or decision_kinds i 0) a.left i refl c.decide.new.t accept c.decide.ensures.after a.place c.loop-kind.rest (omega arith) c.requires.waits c.loop-kind.invariant rest

pub loop-kind-preserved : goal.loop-kind-preserved
loop-kind-preserved c =
    let a = c.args in
    let i = c.loop-kind.kind-index in
    let kind = get_or decision_kinds i 0 in
    let each = begun a.left a.at a.t.now in
    elim c.if-is_ok.branch [
      | then-is_ok+else-rest-many w ↦
          let accept = ok_number c.decide.result c.decide.ensures.number (sym c.is_ok.ensures.value ∙ w.if-is_ok.true) in
          let one = decided-begun a.t.now a.at kind a.left i refl c.decide.new.t accept c.decide.ensures.after in
          place-next each i a.place c.loop-kind.rest w.count_from-many.result c.if-is_ok.rest (omega arith) c.loop-kind.invariant (w.count_from-many.ensures ∙ one) (omega (arith, w.if-rest-many.false)) w.rest-is
      | else-is_ok w ↦
          let some = err_number c.decide.result c.decide.ensures.number (sym c.is_ok.ensures.value ∙ w.if-is_ok.false) in
          let none = refused-none a.t.now a.at kind a.left i refl some in
          place-next each i a.place c.loop-kind.rest 0 c.if-is_ok.rest (omega arith) c.loop-kind.invariant (sym none) (omega arith) (omega (arith, w.rest-is))
    ]

pub returns : goal.returns
returns c =
    let a = c.args in
    let done : c.loop-kind.kind-index ≡ 6 = omega arith in
    let all = goes_length a.at a.t.now a.left c.requires.waits in
    absurd (omega (arith, c.requires.inside, all, c.loop-kind.invariant, ap (λ (n : ℕ). sum_of (begun a.left a.at a.t.now) (take n decision_kinds)) done))
