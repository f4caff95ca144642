-- Document 01, "The seventeen calls", in turn: for which hands even and five are open. Both take the up card, never the bank's hand.
use Rattle.std.specs.Prelude.{Bool, not, ◌&&◌, ◌||◌, ℕ, leb, eqb, length}
use Rattle.cards.specs.Card.{is_ace, is_ten_value}
use Rattle.cards.specs.Total.{total}
use Rattle.options.specs.declared.Options.{Options}
use Rattle.rules.specs.SeatHand.{Played, natural}

-- even (article 10 n.º 3): a natural against an ace or ten-value.
unfoldable pub even_open : ℕ → Played → Bool
even_open up h = natural h && (is_ace up || is_ten_value up)

-- five (article 19): option on, exactly five cards, total at most 21, up card no ace.
unfoldable pub five_open : Options → ℕ → Played → Bool
five_open o up h = eqb o.five 1 && eqb (length h.cards) 5 && leb (total h.cards) 21 && not (is_ace up)
