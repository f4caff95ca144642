-- `surveyed` looks seat by seat: before each turn the seats before it are sound, their sums added up and their cards counted, and the first that is not sound decides.
use mathlib.Core.Path.{◌≡◌}
use mathlib.Core.Bool.{Bool, true}
use mathlib.Core.List.{List}
use Prim.Native.Nat.{ℕ, ◌*◌, ◌≤◌}
use lib.ListN.{take, get_or}
use Rattle.lists.specs.Flat.{flat}
use Rattle.lists.specs.Below.{all_below}
use Rattle.table.specs.declared.Seat.{Seat}
use Rattle.table.specs.Seat.{missing_seat, seat_cards}
use Rattle.table.specs.Broken.{sound_seat}
use Rattle.money.specs.Sums.{sums_over}
use Rattle.money.specs.SumsFit.{SumsFit}
use Rattle.card_count.specs.Aids.Counted.{Counted}
use Rattle.broken.specs.declared.seat.Round.{Round}
use Rattle.broken.proofs.surveyed.Given as goal

-- the test of a seat, with what is worked out before the loop
abbrev passes : Round → List Seat → ℕ → Bool
passes r seats i = sound_seat r.options r.dealt r.up i (get_or seats i missing_seat)

abbrev pub invariant-loop-i : goal.invariant-loop-i
invariant-loop-i l =
    (l.i ≤ 9) × (all_below (passes l.round l.fn.t.seats) l.i ≡ true) × (l.sums ≡ sums_over l.round.options (take l.i l.fn.t.seats)) × SumsFit (3 * l.i) l.sums
    × Counted l.initial.of l.of (flat seat_cards (take l.i l.fn.t.seats)) l.cards (80 * l.i)
