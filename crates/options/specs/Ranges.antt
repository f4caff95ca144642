-- Document 01, "House options, given at opening", and request 2.7: each option with its least and its largest value, in the paper's order, the device behind the prize
-- and the decider (request 2.8) behind the device.
use Rattle.std.specs.Prelude.{Bool, cond, not, ◌&&◌, List, [], ◌∷◌, ℕ, ◌*◌, ◌%◌, leb, eqb}
use Rattle.lists.specs.Tests.{all_of}
use Rattle.options.specs.declared.Options.{Options}
use Rattle.options.specs.declared.Bounds.{Bounds}
use Rattle.options.specs.Device.{is_shoe, is_box, shoe_device, machine_device}

-- A value with its least and its largest permitted value.
abbrev pub range : ℕ → ℕ → ℕ → Bounds
range value least most = record { value = value; least = least; most = most }

-- The value lies in its range.
abbrev pub within : Bounds → Bool
within r = leb r.least r.value && leb r.value r.most

-- Decks: 1 to 8, of the box 1 (request 2.7).
abbrev pub most_decks : Options → ℕ
most_decks o = cond (is_box o) 1 8

-- Later burn: 0 to 2, of the box 0 (request 2.7).
abbrev pub most_later : Options → ℕ
most_later o = cond (is_box o) 0 2

-- Cards behind the cut: 0 with one deck, else 30 to 26 × decks; of box and machine 0 (request 2.7).
abbrev pub has_cut : Options → Bool
has_cut o = is_shoe o && not (eqb o.decks 1)

abbrev pub least_cut : Options → ℕ
least_cut o = cond (has_cut o) 30 0

abbrev pub most_cut : Options → ℕ
most_cut o = cond (has_cut o) (26 * o.decks) 0

-- The options in the paper's order, each with its range.
unfoldable pub ranges : Options → List Bounds
ranges o =
    range o.seats 6 9
    ∷ range o.decks 1 (most_decks o)
    ∷ range o.first 1 2
    ∷ range o.later 0 (most_later o)
    ∷ range o.hands 2 4
    ∷ range o.aces 0 1
    ∷ range o.double 1 2
    ∷ range o.limit 0 1
    ∷ range o.insurance 1 2
    ∷ range o.five 0 1
    ∷ range o.prize 0 1
    ∷ range o.device shoe_device machine_device
    ∷ range o.decider 1 2
    ∷ range o.cut (least_cut o) (most_cut o)
    ∷ range o.smallest 2 o.largest
    ∷ range o.largest o.smallest 1000000
    ∷ []

-- A whole number of pairs: stakes are even.
abbrev pub is_even_number : ℕ → Bool
is_even_number n = eqb (n % 2) 0

-- No option is outside its range (number 2), and both stakes are even.
unfoldable pub in_range : Options → Bool
in_range o = all_of within (ranges o) && is_even_number o.smallest && is_even_number o.largest

-- No options: every value 0, which is outside the ranges. The empty table has these.
abbrev pub no_options : Options
no_options =
    record {
      seats = 0;
      decks = 0;
      first = 0;
      later = 0;
      hands = 0;
      aces = 0;
      double = 0;
      limit = 0;
      insurance = 0;
      five = 0;
      prize = 0;
      device = 0;
      decider = 0;
      cut = 0;
      smallest = 0;
      largest = 0;
    }
