-- Request 2.13: a card arrives at a position. "28 a position or card taken already …; after 22. In a dealt round it is 4", "9 while a stake lies at the position".
use Rattle.std.specs.Prelude.{List, [], ◌∷◌, ℕ}
use Rattle.call.specs.Refusal.{Condition}
use Rattle.table.specs.Seat.{is_staked}
use Rattle.table.specs.Table.{guest_of, no_such_seat}
use Rattle.answer.specs.Conditions.{between_rounds, no_position}
use Rattle.host_spec.specs.declared.Hosted.{Hosted}
use Rattle.host_spec.specs.Cards.{arrived, is_here, place_at, card_at, sits_here, with_card}
use Rattle.host_spec.specs.Broken.{host_broken}

unfoldable pub arrive_conditions : Hosted → ℕ → ℕ → ℕ → List Condition
arrive_conditions h j p card =
    (1, host_broken h)
    ∷ between_rounds h.table
    ∷ (8, no_such_seat h.table j)
    ∷ no_position p
    ∷ (28, is_here (card_at h j p))
    ∷ (28, sits_here h card)
    ∷ (9, is_staked (guest_of h.table j p))
    ∷ []

-- A tally starts at 0.
abbrev pub arrive_effect : Hosted → ℕ → ℕ → ℕ → Hosted
arrive_effect h j p card = with_card h (place_at j p) (arrived card)
