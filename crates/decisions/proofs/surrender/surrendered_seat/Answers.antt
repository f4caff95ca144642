-- A seat has four places, so it has a first one; only the code of that hand's end is another.
use Rattle.decisions.proofs.surrender.surrendered_seat.Goals as goal

pub returns : goal.returns
returns c = c.with_place.ensures
