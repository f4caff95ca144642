-- Each condition is asked before those behind it, as the list has them.
use Rattle.call.specs.Refusal.{first}
use Rattle.answer.proofs.conditions.seat_number.Goals as goal

pub returns : goal.returns
unfolding first
returns c = simp (c.asked-2.ensures, c.asked.ensures)
