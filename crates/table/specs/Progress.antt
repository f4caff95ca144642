-- Document 01, "The seventeen calls", the guest: how far the round has come, which insure (article 12) and surrender (article 18) ask.
use Rattle.std.specs.Prelude.{Bool, ◌||◌, ltb}
use Rattle.lists.specs.Tests.{any_of}
use Rattle.rules.specs.Drew.{seat_drew}
use Rattle.table.specs.declared.Table.{Table}
use Rattle.table.specs.Table.{seats_hands}

-- Somebody has drawn, doubled or split in this round.
unfoldable pub any_drew : Table → Bool
any_drew t = any_of seat_drew (seats_hands t)

-- A decision was taken in this round: somebody has drawn, doubled or split, or a hand has ended by one.
unfoldable pub any_decided : Table → Bool
any_decided t = any_drew t || any_of (λ hands. any_of (λ h. ltb 0 h.ended) hands) (seats_hands t)
