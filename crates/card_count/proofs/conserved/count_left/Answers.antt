-- The part of the array behind the drawn cards, up to the end of the order, is what is left; the first part is counted behind it.
use mathlib.Core.Path.{◌≡◌, sym, ap, ◌∙◌}
use mathlib.Core.List.{List}
use Prim.Native.Nat.{ℕ, ◌*◌}
use native.Mathlib.Omega.{arith}
use lib.ListN.{take, drop}
use lib.Seq.{length-take-le}
use Rattle.card_count.specs.Aids.Counters.{counted_all, no_counts}
use Rattle.card_count.proofs.counters.Counts.{counted-append}
use Rattle.card_count.proofs.conserved.Beside.{left-part}
use Rattle.card_count.proofs.conserved.count_left.Goals as goal

-- the counters begin with zero
from_none : {of after : List ℕ} (cards : List ℕ) → of ≡ no_counts → after ≡ counted_all of cards → after ≡ counted_all no_counts cards
from_none cards none e = e ∙ ap (λ (l : List ℕ). counted_all l cards) none

pub returns : goal.returns
returns c =
    let a = c.args in
    let decks = a.decks in
    let cards = a.sh.now.order in
    let first = take a.sh.now.discarded cards in
    let left = from_none _ c.requires.none c.count.ensures ∙ ap (counted_all no_counts) (left-part a.sh.now.drawn (52 * decks) cards c.requires.fits.drawn) in
    record {
      within = c.requires.fits;
      whole = length-take-le (52 * decks) cards (omega (arith, c.requires.fits.array, c.requires.fits.order));
      counters = c.count-2.ensures ∙ ap (λ (of : List ℕ). counted_all of first) left ∙ sym (counted-append no_counts (drop a.sh.now.drawn (take (52 * decks) cards)) first);
    }
