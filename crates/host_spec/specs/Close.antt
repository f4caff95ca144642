-- Request 2.13: "A round counts for a card whose position staked in it; wagered is all money laid there in that round." It counts at close; "Voided rounds count nowhere"; a tally "stands still after
-- 1,000,000 rounds".
use Rattle.std.specs.Prelude.{Bool, cond, ◌&&◌, List, [], ◌∷◌, ℕ, suc, ◌+◌, ◌-◌, ◌/◌, ◌%◌, ltb}
use Rattle.table.specs.declared.Table.{Table}
use Rattle.table.specs.Seat.{is_staked, purse, laid, prizes}
use Rattle.table.specs.Table.{guest_of}
use Rattle.host_spec.specs.declared.Tally.{Tally}
use Rattle.host_spec.specs.declared.GuestCard.{GuestCard}
use Rattle.host_spec.specs.Cards.{make_tally, make_card, is_here}
use Rattle.host_spec.specs.Broken.{most_rounds}

-- A round more: what was laid, and what came back of it with the prizes.
abbrev pub with_round : Tally → ℕ → ℕ → Tally
with_round tally laid back = make_tally (tally.rounds + 1) (tally.wagered + laid) (tally.returned + back)

-- What came back to the guest in position p of seat i by a close from the table t to the table `after`: what the purse gained, and the prizes that it had of the round already.
abbrev pub came_back : Table → Table → ℕ → ℕ → ℕ
came_back t after i p = purse (guest_of after i p) - purse (guest_of t i p) + prizes t.options (guest_of t i p)

-- The round counts there.
abbrev pub counts : Table → ℕ → ℕ → GuestCard → Bool
counts t i p g = is_here g && is_staked (guest_of t i p) && ltb g.tally.rounds most_rounds

unfoldable pub counted_card : Table → Table → ℕ → ℕ → GuestCard → GuestCard
counted_card t after i p g = cond (counts t i p g) (make_card g.here g.card (with_round g.tally (laid (guest_of t i p)) (came_back t after i p))) g

-- All of them, from that place on.
unfoldable pub counted_from : Table → Table → ℕ → List GuestCard → List GuestCard
counted_from t after place [] = []
counted_from t after place (g ∷ cards) = counted_card t after (place / 3) (place % 3) g ∷ counted_from t after (suc place) cards
