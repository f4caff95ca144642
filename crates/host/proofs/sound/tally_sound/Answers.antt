-- The rounds are tested first; then the tests are the definition's.
use borrow.Author.Tests.{le-leb, lt-leb}
use Rattle.host_spec.specs.Broken.{sound_tally}
use Rattle.host.proofs.sound.tally_sound.Goals as goal

pub returns-then-tally-gt-MOST_ROUNDS : goal.returns-then-tally-gt-MOST_ROUNDS
unfolding sound_tally
returns-then-tally-gt-MOST_ROUNDS c = simp (lt-leb _ _ c.if-tally-gt-MOST_ROUNDS.true)

pub returns-then-tally-rounds : goal.returns-then-tally-rounds
unfolding sound_tally
returns-then-tally-rounds c = simp (le-leb _ _ c.if-tally-gt-MOST_ROUNDS.false, le-leb _ _ c.if-tally-rounds.true)

pub returns-else-tally-rounds : goal.returns-else-tally-rounds
unfolding sound_tally
returns-else-tally-rounds c = simp (le-leb _ _ c.if-tally-gt-MOST_ROUNDS.false, lt-leb _ _ c.if-tally-rounds.false)
