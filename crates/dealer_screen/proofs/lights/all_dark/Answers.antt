-- Every call on a broken table gives 1, so that each of its fields is dark.
use mathlib.Core.Path.{◌≡◌, ◌∙◌, ap}
use mathlib.Core.List.{[], ◌∷◌}
use Prim.Native.Nat.{ℕ}
use Rattle.dealer_screen.specs.declared.lights.Lights.{Lights}
use Rattle.dealer_screen.specs.declared.lights.SeatLights.{SeatLights}
use Rattle.dealer_screen.specs.Lights.{seat_lights}
use Rattle.dealer_screen.proofs.Fields.{broken-seat}
use Rattle.dealer_screen.proofs.lights.all_dark.Goals as goal

-- a seat whose guests' fields are alike
abbrev alike : Lights → SeatLights
alike l = record { guests = l ∷ l ∷ l ∷ [] }

pub returns : goal.returns
returns c =
    let t = c.args.t in
    let dark-seat : (seat : ℕ) → alike c.dark.result ≡ seat_lights t seat = λ seat. ap alike c.dark.ensures ∙ broken-seat t seat c.requires in
    λ i. dark-seat 0 i ∷ dark-seat 1 i ∷ dark-seat 2 i ∷ dark-seat 3 i ∷ dark-seat 4 i ∷ dark-seat 5 i ∷ dark-seat 6 i ∷ dark-seat 7 i ∷ dark-seat 8 i ∷ []
