-- What an accepted draw, double or split says of itself: its seat is one of the nine, and the hand that it was about is the one whose turn it was.
use Rattle.std.specs.Prelude.{◌≡◌, IfOk, Result, ℕ, ◌<◌}
use Rattle.call.specs.declared.refusal.Refusal.{Refusal}
use Rattle.table.specs.declared.Table.{Table}
use Rattle.answer.specs.declared.moved.Moved.{Moved}
use Rattle.decisions_spec.specs.Turn.{waiting_place_of}

abbrev pub Told : Table → ℕ → Result Moved Refusal → Type 0
Told t j r = IfOk r (λ m. (j < 9) × (m.hand ≡ waiting_place_of t j))
