-- What stands in the row of an order and in that of an opening.
use Rattle.std.specs.Prelude.{cond, List, ℕ, ◌-◌, ◌/◌, ◌%◌, eqb, min, length, take, get_or, set, slice_range}
use Rattle.options.specs.declared.Options.{Options}
use Rattle.script.specs.Number.{digit_of, number_of}
use Rattle.script.specs.Named.{cards_below}
use Rattle.script.specs.Begun.{begun}
use Rattle.script.specs.declared.orders.Order.{Order}

-- An order that is not wrong, by the letters in front and the words: the decks stand at 4, and the words name the cards that come first, 64 at most.
abbrev pub order_in : List ℕ → List ℕ → Order
order_in front words = begun (take (min (length words / 2) 64) (cards_below words 64)) (digit_of (get_or front 4 0))

-- An order that is wrong as a letter says: 45 (-) takes away the last card that is lent, 120 (x) puts 52, which is no card, in its place, and 50 (2) the first card.
-- Any other letter leaves the order as it is; so does each where no card is lent.
unfoldable pub wrong_by : ℕ → Order → Order
wrong_by letter order =
    let lent = min order.count 416 in
    cond (eqb lent 0) order
    (cond (eqb letter 45) (record order { count = lent - 1 })
    (cond (eqb letter 120) (record order { cards = set order.cards (lent - 1) 52 })
    (cond (eqb letter 50) (record order { cards = set order.cards (lent - 1) (get_or order.cards 0 0) })
    order)))

-- The order of a row: at 2 stands how it is wrong.
abbrev pub lent_order : List ℕ → List ℕ → Order
lent_order front words = wrong_by (get_or front 2 0) (order_in front words)

-- The options of an opening: thirteen of a digit each, from 2 on; the cut at 16, the smallest stake at 20, the largest at 28. The cut has three digits at most, a stake seven.
abbrev pub house_in : List ℕ → Options
house_in letters =
    record {
      seats = digit_of (get_or letters 2 0);
      decks = digit_of (get_or letters 3 0);
      first = digit_of (get_or letters 4 0);
      later = digit_of (get_or letters 5 0);
      hands = digit_of (get_or letters 6 0);
      aces = digit_of (get_or letters 7 0);
      double = digit_of (get_or letters 8 0);
      limit = digit_of (get_or letters 9 0);
      insurance = digit_of (get_or letters 10 0);
      five = digit_of (get_or letters 11 0);
      prize = digit_of (get_or letters 12 0);
      device = digit_of (get_or letters 13 0);
      decider = digit_of (get_or letters 14 0);
      cut = number_of (slice_range letters 16 19) % 1000;
      smallest = number_of (slice_range letters 20 27) % 10000000;
      largest = number_of (slice_range letters 28 35) % 10000000;
    }
