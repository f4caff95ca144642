-- Each guest wins by its own stake, and all of it is money that the table can hold.
use mathlib.Core.Path.{◌≡◌}
use Prim.Native.Nat.{ℕ, ◌≤◌}
use native.Mathlib.Omega.{arith}
use Rattle.rules.specs.SeatHand.{played_of}
use Rattle.payment.specs.Prize.{prize, most_prize}
use Rattle.payment.proofs.Bounds.{prize_most}
use Rattle.table.specs.Seat.{guest_at}
use Rattle.draw.proofs.card.all_won.Goals.{Start}
use Rattle.draw.proofs.card.all_won.Goals as goal

-- what a guest wins is at most one prize
most : (c : Start) {r : ℕ} (stake : ℕ) → r ≡ prize c.args.o stake (played_of c.args.h) → r ≤ most_prize stake
most c stake won = omega (arith, won, prize_most c.args.o stake (played_of c.args.h))

pub overflow_add-result : goal.overflow_add-result
unfolding guest_at
overflow_add-result c =
    let start = (goal.at.overflow_add-result c).Start in
    omega (arith, c.requires, most start _ c.prize.ensures, most start _ c.prize-2.ensures)

pub overflow_add-result-2 : goal.overflow_add-result-2
unfolding guest_at
overflow_add-result-2 c =
    let start = (goal.at.overflow_add-result-2 c).Start in
    record { fits = omega (arith, c.requires, most start _ c.prize.ensures, most start _ c.prize-2.ensures, most start _ c.prize-3.ensures) }

pub returns : goal.returns
unfolding guest_at
returns c = simp (c.prize-3.ensures, c.prize-2.ensures, c.prize.ensures)
