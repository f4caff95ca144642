-- Each condition is asked before those behind it, as the list has them.
use Rattle.call.specs.Refusal.{first}
use Rattle.ways.specs.Number.{ways_conditions, ways_number}
use Rattle.ways.proofs.numbers.check_ways.Goals as goal

pub returns : goal.returns
unfolding first ways_conditions ways_number
returns c = simp (c.first_refusal.ensures, c.any_decided.ensures, c.staked_guests.ensures, c.is_dealt.ensures, c.broken.ensures)
