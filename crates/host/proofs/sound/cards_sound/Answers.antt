-- Each place by itself, and no card twice.
use mathlib.Core.Path.{sym, ◌∙◌}
use Rattle.host_spec.specs.Broken.{sound_cards}
use Rattle.host.proofs.sound.cards_sound.Goals as goal

pub returns-then-each_sound : goal.returns-then-each_sound
unfolding sound_cards
returns-then-each_sound c = rw (sym c.each_sound.ensures ∙ c.if-each_sound.true) c.each_new.ensures

pub returns-else-each_sound : goal.returns-else-each_sound
unfolding sound_cards
returns-else-each_sound c = rw (sym c.each_sound.ensures ∙ c.if-each_sound.false) c.if-each_sound.false
