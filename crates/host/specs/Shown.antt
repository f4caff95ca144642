-- What a display reads of the card at a position (request 2.13). A broken hosted table, a seat beyond the option and a position that there is not show nothing.
use Rattle.std.specs.Prelude.{Bool, cond, ◌||◌, ℕ, leb, ℤ}
use Rattle.table.specs.Table.{no_such_seat}
use Rattle.host_spec.specs.declared.GuestCard.{GuestCard}
use Rattle.host_spec.specs.declared.Hosted.{Hosted}
use Rattle.host_spec.specs.Cards.{no_card, is_here, card_at, net}
use Rattle.host_spec.specs.Broken.{host_broken}
use Rattle.host.specs.declared.shown.CardShown.{CardShown}

unfoldable pub card_or_none : Hosted → ℕ → ℕ → GuestCard
card_or_none h i p = cond (host_broken h || no_such_seat h.table i || leb 3 p) no_card (card_at h i p)

-- Whether a card sits there, which, and its tally: rounds, money wagered, net with prizes.
abbrev pub make_card_shown : Bool → ℕ → ℕ → ℕ → ℤ → CardShown
make_card_shown here card rounds wagered net = record { here = here; card = card; rounds = rounds; wagered = wagered; net = net }

abbrev pub card_values : GuestCard → CardShown
card_values g = make_card_shown (is_here g) g.card g.tally.rounds g.tally.wagered (net g.tally)

unfoldable pub card_shown : Hosted → ℕ → ℕ → CardShown
card_shown h i p = card_values (card_or_none h i p)
