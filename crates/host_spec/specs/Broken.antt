-- Request 2.13 and document 01, number 1: when guest cards are damaged. docs/BROKEN.md says it in words. A position without a card holds nothing; a card sits at a seat of the option, once, and its tally
-- could be: at most 1,000,000 rounds, and for each of them no more than a position can lay and than can come back to it.
use Rattle.std.specs.Prelude.{Bool, not, ◌&&◌, ◌||◌, List, ℕ, ◌*◌, ◌/◌, ltb, leb, eqb, get_or}
use Rattle.lists.specs.Below.{all_below}
use Rattle.options.specs.declared.Options.{Options}
use Rattle.table.specs.Broken.{broken}
use Rattle.host_spec.specs.declared.Tally.{Tally}
use Rattle.host_spec.specs.declared.GuestCard.{GuestCard}
use Rattle.host_spec.specs.declared.Hosted.{Hosted}
use Rattle.host_spec.specs.Cards.{no_card, is_here, holds}

-- A tally stands still after so many rounds.
abbrev pub most_rounds : ℕ
most_rounds = 1000000

-- In a round a position lays at most eight stakes, an insurance and four side stakes, 9,400,000; what comes back is that and the cover, 542,700,000.
abbrev pub most_laid : ℕ
most_laid = 9400000

abbrev pub most_back : ℕ
most_back = 542700000

unfoldable pub sound_tally : Tally → Bool
sound_tally tally = leb tally.rounds most_rounds && leb tally.wagered (most_laid * tally.rounds) && leb tally.returned (most_back * tally.rounds)

abbrev pub is_empty : GuestCard → Bool
is_empty g = eqb g.here 0 && eqb g.card 0 && eqb g.tally.rounds 0 && eqb g.tally.wagered 0 && eqb g.tally.returned 0

-- The position of that place.
unfoldable pub sound_card : Options → ℕ → GuestCard → Bool
sound_card o place g = is_empty g || (is_here g && ltb (place / 3) o.seats && sound_tally g.tally)

-- No card sits at two positions.
unfoldable pub each_once : List GuestCard → Bool
each_once cards = all_below (λ k. all_below (λ j. not (is_here (get_or cards j no_card) && holds (get_or cards j no_card).card (get_or cards k no_card))) k) 27

unfoldable pub sound_cards : Options → List GuestCard → Bool
sound_cards o cards = all_below (λ k. sound_card o k (get_or cards k no_card)) 27 && each_once cards

unfoldable pub host_broken : Hosted → Bool
host_broken h = broken h.table || not (sound_cards h.table.options h.cards)
