-- Score and wager are their functions'; the rest is copied.
use Rattle.display.proofs.hand.hand_values.Goals as goal

pub returns : goal.returns
returns c = rw (c.hand_score-score.ensures, c.wager.ensures)
