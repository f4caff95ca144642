-- Place by place: before each turn the first k are sound, and one that is not decides.
use mathlib.Core.Path.{◌≡◌}
use mathlib.Core.Bool.{Bool, true}
use mathlib.Core.List.{List}
use Prim.Native.Nat.{ℕ}
use lib.ListN.{get_or}
use Rattle.lists.specs.Below.{all_below}
use Rattle.options.specs.declared.Options.{Options}
use Rattle.host_spec.specs.declared.GuestCard.{GuestCard}
use Rattle.host_spec.specs.Cards.{no_card}
use Rattle.host_spec.specs.Broken.{sound_card}
use Rattle.host.proofs.sound.each_sound.Given as goal

abbrev passes : Options → List GuestCard → ℕ → Bool
passes o cards k = sound_card o k (get_or cards k no_card)

abbrev pub invariant-loop-k : goal.invariant-loop-k
invariant-loop-k l = all_below (passes l.o l.fn.cards) l.k ≡ true
