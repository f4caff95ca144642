-- Document 01, "The seventeen calls", the guest: double (S more, one card, hand ends), article 17. When it is refused, and the table after it.
-- S is asked of the purse of each guest who has staked (request 2.8) as it is before the call: a prize that the card makes does not help to pay for it.
use Rattle.std.specs.Prelude.{not, List, [], ◌∷◌, ◌++◌, ℕ, ltb}
use Rattle.call.specs.Refusal.{Condition}
use Rattle.rules.specs.SeatHand.{by_double}
use Rattle.rules.specs.Permits.{permits_double}
use Rattle.table.specs.declared.Table.{Table}
use Rattle.table.specs.Table.{seat_at, cards_left}
use Rattle.decisions_spec.specs.Turn.{turn_conditions, may_take}
use Rattle.decisions_spec.specs.Card.{purse_short, card_effect}

unfoldable pub double_conditions : Table → ℕ → ℕ → List Condition
double_conditions t j p =
    turn_conditions t j p
    ++ (13, not (may_take permits_double t j))
    ∷ (15, purse_short (seat_at t j))
    ∷ (18, ltb (cards_left t) 1)
    ∷ []

abbrev pub double_effect : Table → ℕ → Table
double_effect t j = card_effect 1 by_double t j
