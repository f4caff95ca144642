-- The bounds of a tally, as its test gives them: no sum over its rounds wraps.
use Rattle.std.specs.Prelude.{◌*◌, ◌≤◌}
use Rattle.host_spec.specs.declared.Tally.{Tally}
use Rattle.host_spec.specs.Broken.{most_rounds, most_laid, most_back}

pub record TallyFits (tally : Tally) : Type 0 where
  pub rounds : tally.rounds ≤ most_rounds
  pub wagered : tally.wagered ≤ most_laid * tally.rounds
  pub returned : tally.returned ≤ most_back * tally.rounds
