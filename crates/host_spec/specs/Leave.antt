-- Request 2.13: a card leaves, "by card alone". "29 card not here", "9 while a stake lies at the position"; "In a dealt round it is 4".
use Rattle.std.specs.Prelude.{not, List, [], ◌∷◌, ℕ, ◌/◌, ◌%◌}
use Rattle.call.specs.Refusal.{Condition}
use Rattle.table.specs.Seat.{is_staked}
use Rattle.table.specs.Table.{guest_of}
use Rattle.answer.specs.Conditions.{between_rounds}
use Rattle.host_spec.specs.declared.Hosted.{Hosted}
use Rattle.host_spec.specs.Cards.{no_card, sits_here, place_of, with_card}
use Rattle.host_spec.specs.Broken.{host_broken}

unfoldable pub leave_conditions : Hosted → ℕ → List Condition
leave_conditions h card =
    (1, host_broken h)
    ∷ between_rounds h.table
    ∷ (29, not (sits_here h card))
    ∷ (9, is_staked (guest_of h.table (place_of h card / 3) (place_of h card % 3)))
    ∷ []

abbrev pub leave_effect : Hosted → ℕ → Hosted
leave_effect h card = with_card h (place_of h card) no_card
