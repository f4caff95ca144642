-- Request 2.14, what is counted, of one round that anybody can count by hand: a fresh shoe of one deck, first burn 1, one seat. Deal takes the burn, two cards for the seat and one for the bank, stand none, and
-- close one card that makes 19: three calls and five cards. So neither the deal nor a burn can be left out of the count.
use Rattle.std.specs.Prelude.{◌≡◌, List, [], ◌∷◌, ℕ}
use Rattle.call.specs.declared.At.{At}
use Rattle.call.specs.declared.Call.{Call}
use Rattle.call.specs.declared.Call.TheVariants.{Fill, Buy, Stake, Deal, Stand, Close}
use Rattle.options.specs.declared.Options.{Options}
use Rattle.host_spec.specs.declared.HostCall.TheVariants.{Play}
use Rattle.host_spec.specs.History.{HostEntry}
use Rattle.round_end.specs.Rounds.{count, rounds_of}

-- The marked session's options.
unfoldable pub one_deck : Options
one_deck =
    record { seats = 6; decks = 1; first = 1; later = 0; hands = 4; aces = 0; double = 1; limit = 0; insurance = 1; five = 0; prize = 1; device = 1; decider = 1; cut = 0; smallest = 2; largest = 100 }

-- A two to burn; ten, nine and ten again for seat, bank and seat; a ten for the bank. What lies behind is not drawn.
unfoldable pub first_cards : List ℕ
first_cards = 1 ∷ 9 ∷ 8 ∷ 22 ∷ 35 ∷ []

abbrev pub seated : At
seated = record { seat = 2; position = 0 }

abbrev pub entry : Call → HostEntry
entry c = record { call = Play c; order = [] }

-- The accepted calls, newest first, up to the stand; then the close.
unfoldable pub up_to_stand : List HostEntry
up_to_stand = entry (Stand seated) ∷ entry Deal ∷ entry (Stake seated 20) ∷ entry (Buy seated 100) ∷ entry (Fill 1000) ∷ []

unfoldable pub with_close : List HostEntry
with_close = entry Close ∷ up_to_stand

pub record Counted : Type 0 where
  pub running : rounds_of one_deck first_cards up_to_stand ≡ count 2 4 ∷ []
  pub closed : rounds_of one_deck first_cards with_close ≡ count 3 5 ∷ []
