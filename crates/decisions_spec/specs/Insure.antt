-- Document 01, "The seventeen calls", the guest: insure (up card an ace, before the round's first accepted decision, once a position, request 2.8), article
-- 12. When it is refused, and the table after it: n goes from the guest's purse to the layout.
use Rattle.std.specs.Prelude.{not, List, [], ◌∷◌, ◌++◌, ℕ, ltb, eqb}
use Rattle.call.specs.Refusal.{Condition}
use Rattle.cards.specs.Card.{is_ace}
use Rattle.table.specs.declared.Table.{Table}
use Rattle.table.specs.Guest.{insuring}
use Rattle.table.specs.Seat.{with_guest, purse, stake, insurance}
use Rattle.table.specs.Table.{with_seat, seat_at, guest_of, up}
use Rattle.options.specs.Permitted.{insurance_permitted}
use Rattle.table.specs.Progress.{any_decided}
use Rattle.answer.specs.Conditions.{in_round, guest_conditions, no_stake}

unfoldable pub insure_conditions : Table → ℕ → ℕ → ℕ → List Condition
insure_conditions t j p n =
    guest_conditions (in_round t) t j p
    ++ (9, ltb 0 (insurance (guest_of t j p)))
    ∷ no_stake t j p
    ∷ (12, any_decided t)
    ∷ (13, not (is_ace (up t)))
    ∷ (14, eqb n 0)
    ∷ (14, not (insurance_permitted t.options (stake (guest_of t j p)) n))
    ∷ (15, ltb (purse (guest_of t j p)) n)
    ∷ []

unfoldable pub insure_effect : Table → ℕ → ℕ → ℕ → Table
insure_effect t j p n = with_seat t j (with_guest (seat_at t j) p (insuring (guest_of t j p).money n))
