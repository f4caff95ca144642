-- The three guests one after the other.
use mathlib.Core.Path.{◌∙◌, ap}
use mathlib.Core.List.{[], ◌∷◌}
use Rattle.dealer_screen.specs.Lights.{lights_at, seat_lights}
use Rattle.dealer_screen.proofs.lights.seat_lights.Goals as goal

pub returns : goal.returns
unfolding seat_lights
returns c =
    let of = lights_at c.args.t.now in
    let seated = c.lights_at-seated.ensures ∙ ap of c.new.ensures in
    let one = c.lights_at-one.ensures ∙ ap of c.new-2.ensures in
    let other = c.lights_at-other.ensures ∙ ap of c.new-3.ensures in
    λ i. record { guests = seated i ∷ one i ∷ other i ∷ [] }
