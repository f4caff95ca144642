-- The nine seats one after the other.
use mathlib.Core.List.{[], ◌∷◌}
use Rattle.dealer_screen.proofs.lights.all_lights.Goals as goal

pub returns : goal.returns
returns c = λ i. c.seat_lights.ensures i ∷ c.seat_lights-2.ensures i ∷ c.seat_lights-3.ensures i ∷ c.seat_lights-4.ensures i ∷ c.seat_lights-5.ensures i ∷ c.seat_lights-6.ensures i ∷ c.seat_lights-7.ensures i ∷ c.seat_lights-8.ensures i ∷ c.seat_lights-9.ensures i ∷ []
