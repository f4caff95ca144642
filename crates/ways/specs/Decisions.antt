-- Request 2.11: the decisions in turn, each by the number of its call's kind, in the request's order: stand, draw, double, split, even, five.
use Rattle.std.specs.Prelude.{Bool, cond, List, [], ◌∷◌, map, ℕ, eqb}
use Rattle.lists.specs.Tests.{any_of}
use Rattle.call.specs.declared.At.{At}
use Rattle.call.specs.declared.Call.{Call}
use Rattle.call.specs.declared.Call.TheVariants.{Stand, Draw, Double, Split, Even, Five}
use Rattle.history.specs.Entry.{Entry}

abbrev pub decision_kinds : List ℕ
decision_kinds = 8 ∷ 9 ∷ 10 ∷ 11 ∷ 13 ∷ 14 ∷ []

unfoldable pub is_decision : ℕ → Bool
is_decision kind = any_of (eqb kind) decision_kinds

-- The call of that kind by a guest; what is none of the six is not asked for.
unfoldable pub decision : At → ℕ → Call
decision at kind =
    cond (eqb kind 8) (Stand at)
    (cond (eqb kind 9) (Draw at)
    (cond (eqb kind 10) (Double at)
    (cond (eqb kind 11) (Split at)
    (cond (eqb kind 13) (Even at) (Five at)))))

-- The calls of a list of decisions by that guest, first to last; no order is lent beside them.
abbrev pub plays : At → List ℕ → List Entry
plays at decisions = map (λ kind. record { call = decision at kind; order = [] }) decisions
