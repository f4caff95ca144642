-- Both sums are far below 2^63, so the casts keep them and their difference fits.
use mathlib.Core.Path.{ap}
use Rattle.host_spec.specs.Cards.{is_here}
use Rattle.host.specs.Shown.{make_card_shown}
use Rattle.host.proofs.Nets.{casts_fit, casts_net}
use Rattle.host.proofs.shown.card_values.Goals as goal

pub overflow_sub-result : goal.overflow_sub-result
overflow_sub-result c = let tally = c.args.g.tally in casts_fit tally.returned tally.wagered c.requires.1 c.requires.0

pub returns : goal.returns
returns c =
    let g = c.args.g in
    ap (make_card_shown (is_here g) g.card g.tally.rounds g.tally.wagered) (casts_net g.tally.returned g.tally.wagered c.requires.1 c.requires.0)
