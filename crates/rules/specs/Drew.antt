-- Document 01, "The seventeen calls", the guest: surrender is open before anyone has drawn, doubled or split in this round (article 18).
use Rattle.std.specs.Prelude.{Bool, not, ◌||◌, List, ltb, length}
use Rattle.lists.specs.Tests.{any_of}
use Rattle.rules.specs.SeatHand.{Played, has_two_cards}

-- A seat has drawn, doubled or split: it has more than one hand, or one that has not exactly two cards.
unfoldable pub seat_drew : List Played → Bool
seat_drew hands = ltb 1 (length hands) || any_of (λ h. not (has_two_cards h)) hands
