-- What a display reads of the whole table: its options, money and cards, and whose turn it is. A broken table shows nothing.
use Rattle.std.specs.Prelude.{Bool, true, false, cond, not, ◌||◌, ℕ}
use Rattle.cards.specs.declared.hand.Hand.{Hand}
use Rattle.cards.specs.Hand.{empty_hand, with_card}
use Rattle.options.specs.declared.Options.{Options}
use Rattle.options.specs.Ranges.{no_options}
use Rattle.table.specs.declared.Table.{Table}
use Rattle.table.specs.Seat.{decider}
use Rattle.table.specs.Table.{seat_at, is_dealt, up, cards_left}
use Rattle.table.specs.Money.{layout, purses}
use Rattle.table.specs.Broken.{broken}
use Rattle.state.specs.Turn.{seat_in_turn, any_waits}
use Rattle.state.specs.Turn.{place_in_turn}
use Rattle.display.specs.declared.TableShown.{TableShown}
use Rattle.display.specs.declared.TurnShown.{TurnShown}

-- The options; the tray, all layout and all purses; the cards left, the number of discards and what is shown of the bank.
abbrev pub make_shown : Options → ℕ → ℕ → ℕ → ℕ → ℕ → Hand → TableShown
make_shown options tray layout purses left discards bank =
    record { options = options; tray = tray; layout = layout; purses = purses; left = left; discards = discards; bank = bank }

-- What is shown of a broken table.
abbrev pub no_table_shown : TableShown
no_table_shown = make_shown no_options 0 0 0 0 0 empty_hand

-- Of the bank only the up card: its second card, where it has one before close, lies face down (request 2.7).
unfoldable pub bank_shown : Table → Hand
bank_shown t = cond (is_dealt t) (with_card empty_hand (up t)) empty_hand

unfoldable pub table_shown : Table → TableShown
table_shown t =
    cond (broken t) no_table_shown
    (make_shown t.options t.tray (layout t) (purses t) (cards_left t) t.shoe.discarded (bank_shown t))

-- Whose turn it is, by seat and place, with the position of the guest who decides (request 2.8), or that it is nobody's.
abbrev pub make_turn : Bool → ℕ → ℕ → ℕ → TurnShown
make_turn somebody seat place position = record { somebody = somebody; seat = seat; place = place; position = position }

abbrev pub nobodys_turn : TurnShown
nobodys_turn = make_turn false 0 0 0

unfoldable pub turn_shown : Table → TurnShown
turn_shown t = cond (broken t || not (any_waits t)) nobodys_turn (make_turn true (seat_in_turn t) (place_in_turn t) (decider t.options (seat_at t (seat_in_turn t))))
