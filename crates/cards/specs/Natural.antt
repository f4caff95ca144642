-- Document 01, "Cards and totals", article 10 n.º 1: natural. Whether a seat's hand is unsplit is for the rules to ask.
use Rattle.std.specs.Prelude.{Bool, ◌&&◌, List, ℕ, eqb, length}
use Rattle.lists.specs.Tests.{any_of}
use Rattle.cards.specs.Card.{is_ace, is_ten_value}

-- Natural: two cards, an ace and a ten-value.
unfoldable pub is_natural : List ℕ → Bool
is_natural cards = eqb (length cards) 2 && any_of is_ace cards && any_of is_ten_value cards
