-- The table is damaged, or the cards are.
use mathlib.Core.Path.{sym, ◌∙◌, ap}
use mathlib.Core.Bool.{not}
use Rattle.host_spec.specs.Broken.{host_broken}
use Rattle.host.proofs.sound.host_broken.Goals as goal

pub returns-then-broken : goal.returns-then-broken
unfolding host_broken
returns-then-broken c = rw (sym c.broken.ensures ∙ c.if-broken.true) c.if-broken.true

pub returns-else-broken : goal.returns-else-broken
unfolding host_broken
returns-else-broken c = rw (sym c.broken.ensures ∙ c.if-broken.false) (ap not c.cards_sound.ensures)
