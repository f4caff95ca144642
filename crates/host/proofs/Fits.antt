-- The tally of a card that is sound fits, also that of a position without a card.
use mathlib.Core.Path.{◌≡◌, refl, ap}
use mathlib.Core.Bool.{Bool, true, false, not, ◌&&◌, and-eq-true_iff}
use mathlib.Core.List.{List}
use Prim.Native.Nat.{ℕ, ◌*◌, ◌/◌, ◌≤◌, ◌<◌}
use native.Mathlib.Omega.{arith}
use lib.Dec.{ltb, leb, eqb}
use lib.ListN.{get_or}
use borrow.Author.Tests.{leb-true, eqb-true, not-false}
use Rattle.lists.specs.Below.{all_below}
use Rattle.lists.proofs.Tests.{or_eq_false, or_other}
use Rattle.lists.proofs.Below.{all_below_lem}
use Rattle.options.specs.declared.Options.{Options}
use Rattle.host_spec.specs.declared.Tally.{Tally}
use Rattle.table.specs.Broken.{broken}
use Rattle.host_spec.specs.declared.GuestCard.{GuestCard}
use Rattle.host_spec.specs.declared.Hosted.{Hosted}
use Rattle.host_spec.specs.Cards.{no_card, is_here}
use Rattle.host_spec.specs.Broken.{most_rounds, most_laid, most_back, sound_tally, is_empty, sound_card, each_once, sound_cards, host_broken}
use Rattle.host.specs.Aids.Fits.{TallyFits}

tally_fits : (tally : Tally) → sound_tally tally ≡ true → TallyFits tally
unfolding sound_tally
tally_fits tally h =
    let (two, returned) = (and-eq-true_iff (leb tally.rounds most_rounds && leb tally.wagered (most_laid * tally.rounds)) (leb tally.returned (most_back * tally.rounds))).0 h in
    let (rounds, wagered) = (and-eq-true_iff (leb tally.rounds most_rounds) (leb tally.wagered (most_laid * tally.rounds))).0 two in
    record {
      rounds = leb-true tally.rounds most_rounds rounds;
      wagered = leb-true tally.wagered (most_laid * tally.rounds) wagered;
      returned = leb-true tally.returned (most_back * tally.rounds) returned;
    }

empty-fits : (g : GuestCard) → is_empty g ≡ true → TallyFits g.tally
empty-fits g h =
    let (four, returned) = (and-eq-true_iff (eqb g.here 0 && eqb g.card 0 && eqb g.tally.rounds 0 && eqb g.tally.wagered 0) (eqb g.tally.returned 0)).0 h in
    let (three, wagered) = (and-eq-true_iff (eqb g.here 0 && eqb g.card 0 && eqb g.tally.rounds 0) (eqb g.tally.wagered 0)).0 four in
    let (two, rounds) = (and-eq-true_iff (eqb g.here 0 && eqb g.card 0) (eqb g.tally.rounds 0)).0 three in
    record {
      rounds = omega (arith, eqb-true g.tally.rounds 0 rounds);
      wagered = omega (arith, eqb-true g.tally.wagered 0 wagered);
      returned = omega (arith, eqb-true g.tally.returned 0 returned);
    }

pub card-fits : (o : Options) (k : ℕ) (g : GuestCard) → sound_card o k g ≡ true → TallyFits g.tally
unfolding sound_card
card-fits o k g h = go (is_empty g) refl
  where
    go : (b : Bool) → is_empty g ≡ b → TallyFits g.tally
    go true e = empty-fits g e
    go false e =
        tally_fits g.tally
        ((and-eq-true_iff (is_here g && ltb (k / 3) o.seats) (sound_tally g.tally)).0 (or_other (is_empty g) (is_here g && ltb (k / 3) o.seats && sound_tally g.tally) h e)).1

-- each of the 27
pub each_sound : (o : Options) (cards : List GuestCard) → sound_cards o cards ≡ true → (k : ℕ) → k < 27 → sound_card o k (get_or cards k no_card) ≡ true
unfolding sound_cards
each_sound o cards h k inside =
    all_below_lem (λ j. sound_card o j (get_or cards j no_card)) 27 k ((and-eq-true_iff (all_below (λ j. sound_card o j (get_or cards j no_card)) 27) (each_once cards)).0 h).0 inside

-- of a hosted table that is not broken; its sums, and those of a position without a card, are small
pub whole-cards : (h : Hosted) → host_broken h ≡ false → sound_cards h.table.options h.cards ≡ true
unfolding host_broken
whole-cards h whole =
    not-false (sound_cards h.table.options h.cards) (or_eq_false (broken h.table) (not (sound_cards h.table.options h.cards)) whole).1

abbrev pub Small : GuestCard → Type 0
Small g = (g.tally.wagered ≤ 1000000000000000) × (g.tally.returned ≤ 1000000000000000)

pub small-card : (h : Hosted) (k : ℕ) → host_broken h ≡ false → k < 27 → Small (get_or h.cards k no_card)
small-card h k whole inside =
    let g = get_or h.cards k no_card in
    let fits = card-fits h.table.options k g (each_sound h.table.options h.cards (whole-cards h whole) k inside) in
    (omega (arith, fits.rounds, fits.wagered), omega (arith, fits.rounds, fits.returned))

pub small-none : (g : GuestCard) → g ≡ no_card → Small g
small-none g none = (omega (arith, ap (λ (x : GuestCard). x.tally.wagered) none), omega (arith, ap (λ (x : GuestCard). x.tally.returned) none))
