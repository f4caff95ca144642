-- Document 01, "The seventeen calls", the guest: draw, article 6 4). When it is refused, and the table after it.
use Rattle.std.specs.Prelude.{not, List, [], ◌∷◌, ◌++◌, ℕ, ltb}
use Rattle.call.specs.Refusal.{Condition}
use Rattle.rules.specs.SeatHand.{not_ended}
use Rattle.rules.specs.Permits.{permits_draw}
use Rattle.table.specs.declared.Table.{Table}
use Rattle.table.specs.Table.{cards_left}
use Rattle.decisions_spec.specs.Turn.{turn_conditions, may_take}
use Rattle.decisions_spec.specs.Card.{card_effect}

unfoldable pub draw_conditions : Table → ℕ → ℕ → List Condition
draw_conditions t j p = turn_conditions t j p ++ (13, not (may_take permits_draw t j)) ∷ (18, ltb (cards_left t) 1) ∷ []

abbrev pub draw_effect : Table → ℕ → Table
draw_effect t j = card_effect 0 not_ended t j
