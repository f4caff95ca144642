-- Request 2.13: "Up to 27 cards, any numbers of 64 bits, sit at positions", each with its tally: "rounds closed, money wagered, net with prizes. It starts at 0 on arrival".
use Rattle.std.specs.Prelude.{Bool, ◌&&◌, List, ℕ, ◌+◌, ◌*◌, eqb, ℤ, pos, ◌-ℤ◌, get_or, set}
use Rattle.lists.specs.Tests.{any_of, first_place}
use Rattle.table.specs.declared.Table.{Table}
use Rattle.host_spec.specs.declared.Tally.{Tally}
use Rattle.host_spec.specs.declared.GuestCard.{GuestCard}
use Rattle.host_spec.specs.declared.Hosted.{Hosted}

abbrev pub make_tally : ℕ → ℕ → ℕ → Tally
make_tally rounds wagered returned = record { rounds = rounds; wagered = wagered; returned = returned }

abbrev pub make_card : ℕ → ℕ → Tally → GuestCard
make_card here card tally = record { here = here; card = card; tally = tally }

abbrev pub hosted : Table → List GuestCard → Hosted
hosted table cards = record { table = table; cards = cards }

-- A tally on arrival; a card that has just arrived; a position without a card.
abbrev pub no_tally : Tally
no_tally = make_tally 0 0 0

abbrev pub arrived : ℕ → GuestCard
arrived card = make_card 1 card no_tally

abbrev pub no_card : GuestCard
no_card = make_card 0 0 no_tally

-- The net of a tally, prizes among it.
abbrev pub net : Tally → ℤ
net tally = pos tally.returned -ℤ pos tally.wagered

-- A card sits there; that card sits there.
abbrev pub is_here : GuestCard → Bool
is_here g = eqb g.here 1

abbrev pub holds : ℕ → GuestCard → Bool
holds card g = is_here g && eqb g.card card

-- The positions stand by seat, three to a seat.
abbrev pub place_at : ℕ → ℕ → ℕ
place_at i p = 3 * i + p

abbrev pub card_at : Hosted → ℕ → ℕ → GuestCard
card_at h i p = get_or h.cards (place_at i p) no_card

-- That card sits somewhere, and where.
abbrev pub sits_here : Hosted → ℕ → Bool
sits_here h card = any_of (holds card) h.cards

abbrev pub place_of : Hosted → ℕ → ℕ
place_of h card = first_place (holds card) h.cards

-- The same table with another card in that place.
abbrev pub with_card : Hosted → ℕ → GuestCard → Hosted
with_card h place g = hosted h.table (set h.cards place g)
