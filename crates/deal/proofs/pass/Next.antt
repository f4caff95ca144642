-- A pass in its turn for seat i: the seats before it have had theirs. It takes the card of its place among the staked seats.
use mathlib.Core.Path.{◌≡◌, sym, ◌∙◌, ap, ap₂}
use mathlib.Core.Bool.{cond}
use mathlib.Core.List.{List, ◌++◌, append-nil}
use Prim.Native.Nat.{ℕ, ◌+◌, ◌≤◌, ◌<◌}
use native.Mathlib.Numerals.{add-one}
use native.Mathlib.Omega.{arith}
use lib.ListN.{length, take, drop, get_or, set, drop_of_length-le}
use lib.Seq.{take_all}
use Rattle.lists.proofs.Picks.{cond_most}
use Rattle.lists.proofs.Sums.{sum-take}
use Rattle.lists.proofs.Stores.{copy_next}
use Rattle.table.specs.declared.Seat.{Seat}
use Rattle.table.specs.Seat.{missing_seat, is_staked}
use Rattle.deal_spec.specs.Pass.{pass}
use Rattle.deal_spec.specs.Deal.{staked_seats}
use Rattle.deal_spec.proofs.Pass.{pass-length, pass-at}

-- a seat takes one card at most
pub one-most : (s : Seat) → cond (is_staked s) 1 0 ≤ 1
one-most s = cond_most (is_staked s) (omega arith) (omega arith)

-- one staked seat more, or none
pub staked-next : (seats : List Seat) (i : ℕ) → i < length seats → staked_seats (take (i + 1) seats) ≡ staked_seats (take i seats) + cond (is_staked (get_or seats i missing_seat)) 1 0
staked-next seats i h = rw (add-one, sum-take (λ s. cond (is_staked s) 1 0) seats i missing_seat)

module _ (give : Seat → ℕ → Seat) (order : List ℕ) (n : ℕ) (seats : List Seat) where
  -- the seats before the turn of seat i
  abbrev pub before : ℕ → List Seat
  before i = take i (pass give order n seats) ++ drop i seats

  pub serve-next : (i place : ℕ) → i < length seats → place ≡ n + staked_seats (take i seats)
      → set (before i) i (cond (is_staked (get_or seats i missing_seat)) (give (get_or seats i missing_seat) (get_or order place 0)) (get_or seats i missing_seat)) ≡ before (i + 1)
  serve-next i place h e =
      let s = get_or seats i missing_seat in
      ap (λ (k : ℕ). set (before i) i (cond (is_staked s) (give s (get_or order k 0)) s)) e
      ∙ ap (set (before i) i) (sym (pass-at give order n seats i))
      ∙ copy_next (pass give order n seats) seats i missing_seat (omega (arith, pass-length give order n seats)) h

  -- once all have had theirs
  pub serve-all : (i : ℕ) → i ≡ length seats → before i ≡ pass give order n seats
  serve-all i e =
      ap₂ ◌++◌ (take_all i (pass give order n seats) (omega (arith, pass-length give order n seats))) (drop_of_length-le seats {i = i} (omega arith))
      ∙ append-nil (pass give order n seats)
