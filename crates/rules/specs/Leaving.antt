-- Document 01, "The seventeen calls", the guest: to which hand the rules permit even, five and surrender.
-- By these a hand leaves with a pay that no card of the bank changes.
-- Each is asked of a hand of a seat with `many` hands, against the up card `up`. A hand that does not wait may take none.
use Rattle.std.specs.Prelude.{Bool, not, ◌&&◌, ℕ}
use Rattle.cards.specs.Card.{is_ace}
use Rattle.options.specs.declared.Options.{Options}
use Rattle.rules.specs.SeatHand.{Played}
use Rattle.rules.specs.OpenCalls.{even_open, five_open}
use Rattle.rules.specs.Waits.{waits}

-- even (article 10 n.º 3): a natural against an ace or ten-value.
unfoldable pub permits_even : Options → ℕ → ℕ → Played → Bool
permits_even o up many h = waits o up many h && even_open up h

-- five (article 19): option on, exactly five cards, total at most 21, up card no ace.
unfoldable pub permits_five : Options → ℕ → ℕ → Played → Bool
permits_five o up many h = waits o up many h && five_open o up h

-- surrender (article 18): up card no ace, before anyone has drawn, doubled or split in this round (`late`), while the hand waits.
unfoldable pub permits_surrender : Options → ℕ → Bool → ℕ → Played → Bool
permits_surrender o up late many h = waits o up many h && not late && not (is_ace up)
