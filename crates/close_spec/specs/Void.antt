-- Document 01, "The seventeen calls", void: a misdeal (article 5). Each guest gets back what was laid in this round and returns the prizes. Drawn cards
-- become discards.
use Rattle.std.specs.Prelude.{not, List, [], ◌∷◌, map, ℕ, ◌+◌, ◌-◌}
use Rattle.call.specs.Refusal.{Condition}
use Rattle.cards.specs.Hand.{empty_hand}
use Rattle.options.specs.declared.Options.{Options}
use Rattle.table.specs.declared.Seat.{Seat}
use Rattle.table.specs.declared.Table.{Table}
use Rattle.table.specs.Seat.{cleared_seat, guest_at, purse, laid, prizes}
use Rattle.table.specs.Shoe.{discard_drawn}
use Rattle.table.specs.Table.{make_table, some_staked}
use Rattle.table.specs.Money.{all_prizes}
use Rattle.table.specs.Broken.{broken}

unfoldable pub void_conditions : Table → List Condition
void_conditions t = (1, broken t) ∷ (6, not (some_staked t)) ∷ []

-- A guest's purse then, and the seat of such guests.
abbrev pub void_purse : Options → Seat → ℕ
void_purse o s = purse s + laid s - prizes o s

abbrev pub void_seat : Options → Seat → Seat
void_seat o s = cleared_seat (λ p. void_purse o (guest_at s p))

unfoldable pub void_effect : Table → Table
void_effect t =
    make_table t.options (t.tray + all_prizes t) (map (void_seat t.options) t.seats) empty_hand
    (discard_drawn t.shoe)
