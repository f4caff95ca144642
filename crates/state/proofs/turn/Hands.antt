-- The hands of the seats of a table: nine lists, and the first of them in which a hand waits.
use mathlib.Core.Path.{◌≡◌, sym, ◌∙◌, ap}
use Prim.Native.Nat.{ℕ}
use lib.Dec.{ltb}
use lib.ListN.{length, length-map}
use Rattle.lists.proofs.Tests.{first_inside}
use Rattle.table.specs.declared.Table.{Table}
use Rattle.table.specs.Seat.{hands}
use Rattle.table.specs.Table.{seats_hands, up}
use Rattle.rules.specs.Turn.{seat_waits}
use Rattle.state.specs.Turn.{seat_in_turn, any_waits}

module _ (t : Table) (full : length t.seats ≡ 9) where
  pub nine_seats_lem : length (seats_hands t) ≡ 9
  nine_seats_lem = length-map t.seats hands ∙ full

  -- some hand waits exactly if the first seat with a waiting hand is one of the nine
  pub waits_below : (i : ℕ) → i ≡ seat_in_turn t → any_waits t ≡ ltb i 9
  waits_below i e = sym (ap (λ (k : ℕ). ltb k 9) e ∙ ap (ltb (seat_in_turn t)) (sym nine_seats_lem) ∙ first_inside (seat_waits t.options (up t)) (seats_hands t))
