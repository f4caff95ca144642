-- Seat and place as given, the hand's cards and their total.
use mathlib.Core.Path.{ap}
use Prim.Native.Nat.{ℕ}
use Rattle.cards.specs.declared.hand.Hand.{Hand}
use Rattle.cards.specs.declared.score.HandScore.{HandScore}
use Rattle.dealer_screen.specs.declared.rows.Row.{Row}
use Rattle.dealer_screen.proofs.rows.hand_row.Goals as goal

abbrev row_with : ℕ → ℕ → Hand → ℕ → Row
row_with seat place hand total = record { seat = seat; place = place; hand = hand; total = total }

pub returns : goal.returns
returns c =
    let a = c.args in
    ap (λ (n : ℕ). row_with a.seat a.place a.h.hand n) (ap (λ (x : HandScore). x.total) c.hand_score.ensures)
