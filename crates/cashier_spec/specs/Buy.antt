-- Document 01, "The seventeen calls", the cashier: "buy, cash: a seat's purse up, down", of a position (request 2.8). A buy's conditions, and its effect: the guest's purse
-- grows by the amount, and nothing else changes.
use Rattle.std.specs.Prelude.{List, [], ◌∷◌, ◌++◌, ℕ, ◌+◌, eqb}
use Rattle.call.specs.Refusal.{Condition}
use Rattle.table.specs.declared.Table.{Table}
use Rattle.table.specs.Seat.{purse}
use Rattle.table.specs.Table.{guest_of, with_purse_at}
use Rattle.table.specs.Money.{past_most_money}
use Rattle.answer.specs.Conditions.{between_rounds, guest_conditions}

-- 1 broken, 4 a round is dealt, 8 no such seat, 22 no such position, 14 amount 0 or money past 10^15.
unfoldable pub buy_conditions : Table → ℕ → ℕ → ℕ → List Condition
buy_conditions t j p n = guest_conditions (between_rounds t) t j p ++ (14, eqb n 0) ∷ (14, past_most_money t n) ∷ []

unfoldable pub buy_effect : Table → ℕ → ℕ → ℕ → Table
buy_effect t j p n = with_purse_at t j p (purse (guest_of t j p) + n)
