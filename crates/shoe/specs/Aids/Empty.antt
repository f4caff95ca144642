-- An array with room for every card of a shoe, before any card is in it.
use Rattle.std.specs.Prelude.{List, ℕ, replicate}

unfoldable pub no_cards : List ℕ
no_cards = replicate 416 0
