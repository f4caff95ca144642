-- `purse` adds before it takes away, and both fit; each arm is its call's definition.
use Rattle.close.proofs.seats.Ending.purse.Goals as goal

pub returns-in-Void : goal.returns-in-Void
returns-in-Void c = rw (c.in-Void.is, c.laid.ensures, c.prizes.ensures)

pub returns-in-Paid : goal.returns-in-Paid
returns-in-Paid c = rw (c.in-Paid.is, c.guest_back.ensures.same)
