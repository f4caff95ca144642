-- The purse has the stakes that are laid, and room for the prize.
use native.Mathlib.Omega.{arith}
use Rattle.rules.specs.SeatHand.{played_of}
use Rattle.payment.proofs.Bounds.{prize_most}
use Rattle.draw.proofs.card.card_money.Goals as goal

pub overflow_add-next : goal.overflow_add-next
overflow_add-next c =
    let start = c in
    omega (arith, start.requires.purse_fits, c.prize.ensures, prize_most start.args.o start.args.m.stake (played_of start.args.h))

pub returns : goal.returns
returns c = simp c.prize.ensures
