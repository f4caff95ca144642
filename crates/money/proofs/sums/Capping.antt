-- What the sums say of the purses and the stakes themselves: cutting the purses changes no test of the limit, and stakes above 0 are a stake.
use mathlib.Core.Path.{◌≡◌, refl, sym, ◌∙◌, ap}
use mathlib.Core.Bool.{true, false, not}
use mathlib.Core.List.{List}
use Prim.Native.Nat.{ℕ, ◌+◌, ◌≤◌, ◌<◌}
use native.Mathlib.Decide.{dec_le, ℕ_discrete}
use native.Mathlib.Omega.{arith}
use lib.Dec.{ltb, eqb}
use lib.ListN.{length}
use borrow.Author.Tests.{lt-ltb, le-ltb, eq-eqb, ne_eqb}
use Rattle.lists.specs.Sum.{sum_of}
use Rattle.lists.proofs.Sums.{sum-at-most, sum-none, sum_has, sum-cut-least, any_sum}
use Rattle.lists.proofs.Tests.{ltb_same}
use Rattle.table.specs.declared.Seat.{Seat}
use Rattle.table.specs.declared.Table.{Table}
use Rattle.table.specs.Seat.{missing_seat, over_guests, purse, stake, is_staked}
use Rattle.table.specs.Table.{seat_at, guest_of, some_staked}
use Rattle.table.specs.Money.{most_money}
use Rattle.table.proofs.Guests.{guest-seated}
use Rattle.money.specs.declared.sums.Sums.{Sums}
use Rattle.money.specs.Sums.{capped, table_sums}

-- a seat's cut purses are at most its purses, and at least these cut
abbrev cut-purses : Seat → ℕ
cut-purses s = over_guests (λ g. capped (purse g)) s

module _ (seats : List Seat) where
  cut_most : sum_of cut-purses seats ≤ sum_of (over_guests purse) seats
  cut_most = sum-at-most cut-purses (over_guests purse) seats missing_seat (λ i h. omega arith)

  cut-least : capped (sum_of (over_guests purse) seats) ≤ sum_of cut-purses seats
  cut-least =
      omega (
        arith,
        sum-cut-least (over_guests purse) (most_money + 1) seats,
        sum-at-most (λ s. capped (over_guests purse s)) cut-purses seats missing_seat (λ i h. omega arith),
      )

  -- past the limit with the cut purses exactly if past it with the purses
  pub limit_capped : (a n : ℕ) → ltb most_money (a + sum_of cut-purses seats + n) ≡ ltb most_money (a + sum_of (over_guests purse) seats + n)
  limit_capped a n =
      ltb_same most_money (a + sum_of cut-purses seats + n) most_money (a + sum_of (over_guests purse) seats + n) (λ h. omega (arith, cut_most)) (λ h. omega (arith, cut-least))

  -- within the limit the cut purses are the purses
  pub within-capped : sum_of (over_guests purse) seats ≤ most_money → sum_of cut-purses seats ≡ sum_of (over_guests purse) seats
  within-capped h = omega (arith, cut_most, cut-least)

-- where the seated guest of each seat stakes first, some seat has a stake exactly if the stakes are above 0
module _ (t : Table) (m : Sums) (sums : m ≡ table_sums t) (nine : length t.seats ≡ 9)
    (seated : (i : ℕ) → i < 9 → (p : ℕ) → p < 3 → stake (seat_at t i) ≡ 0 → stake (guest_of t i p) ≡ 0) where
  -- a seat without a stake has none of any guest
  none_beside : (i : ℕ) → i < 9 → stake (seat_at t i) ≡ 0 → over_guests stake (seat_at t i) ≡ 0
  none_beside i h none = omega (arith, seated i h 0 (omega arith) none, seated i h 1 (omega arith) none, seated i h 2 (omega arith) none)

  -- nobody has one where the seated guests have none
  nobody : sum_of stake t.seats ≡ 0 → sum_of (over_guests stake) t.seats ≡ 0
  nobody none =
      sum-none (over_guests stake) t.seats missing_seat (λ i h. none_beside i (omega arith) (omega (arith, sum_has stake t.seats i missing_seat h)))

  seated-most : sum_of stake t.seats ≤ sum_of (over_guests stake) t.seats
  seated-most = sum-at-most stake (over_guests stake) t.seats missing_seat (λ i h. omega (arith, ap stake (guest-seated (seat_at t i))))

  pub some_stakes : some_staked t ≡ ltb 0 m.stakes
  some_stakes =
      any_sum is_staked stake (λ s. refl) t.seats
      ∙ ltb_same 0 (sum_of stake t.seats) 0 (sum_of (over_guests stake) t.seats) (λ h. omega (arith, seated-most)) (λ h. go (dec_le (sum_of stake t.seats) 0) h)
      ∙ ap (λ (x : Sums). ltb 0 x.stakes) (sym sums)
    where
      go : Dec (sum_of stake t.seats ≤ 0) → 0 < sum_of (over_guests stake) t.seats → 0 < sum_of stake t.seats
      go (yes none) h = absurd (omega (arith, nobody (omega arith)))
      go (no some) h = omega arith

  none-staked : m.stakes ≡ 0 → some_staked t ≡ false
  none-staked e = some_stakes ∙ le-ltb 0 m.stakes (omega arith)

  is-staked : (m.stakes ≡ 0 → ⊥) → some_staked t ≡ true
  is-staked ne = some_stakes ∙ lt-ltb 0 m.stakes (omega arith)

  -- and none exactly if they come to 0, as deal and void ask it
  pub nothing-staked : not (some_staked t) ≡ eqb m.stakes 0
  nothing-staked = go (ℕ_discrete m.stakes 0)
    where
      go : Dec (m.stakes ≡ 0) → not (some_staked t) ≡ eqb m.stakes 0
      go (yes none) = ap not (none-staked none) ∙ sym (eq-eqb m.stakes 0 none)
      go (no some) = ap not (is-staked some) ∙ sym (ne_eqb m.stakes 0 some)
