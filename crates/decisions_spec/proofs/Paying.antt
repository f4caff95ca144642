-- Draw, double and split go to the hand of the whole seat: each of its guests lays and wins by its own stake (request 2.8), `more` and `won` of it. In a position that the
-- seat does not have there is no stake, so nothing moves there either.
use mathlib.Core.Path.{◌≡◌, sym, ◌∙◌, ap}
use mathlib.Core.Bool.{false}
use Prim.Native.Nat.{ℕ, ◌+◌, ◌≤◌, ◌<◌}
use native.Mathlib.Decide.{dec_le}
use native.Mathlib.Omega.{arith}
use lib.Dec.{ltb}
use lib.ListN.{length}
use borrow.Author.Tests.{ltb-false}
use Rattle.table.specs.declared.Money.{Money}
use Rattle.table.specs.declared.Seat.{Seat}
use Rattle.table.specs.Guest.{missing_money, with_purse}
use Rattle.table.specs.Seat.{guest_at, map_guests, purse, stake}
use Rattle.table.proofs.Guests.{guest_beyond, guest_mapped, no_guest}
use Rattle.decisions_spec.specs.Card.{purse_short}

-- what the change f of each guest's money must give
pub record Pays (f : Money → Money) (more won : ℕ → ℕ) (s : Seat) : Type 0 where
  pub two : length s.others ≡ 2
  pub keeps : (m : Money) → f m ≡ with_purse m (f m).purse
  pub moves : (m : Money) → more m.stake ≤ m.purse → (f m).purse + more m.stake ≡ m.purse + won m.stake
  pub lays_none : more 0 ≡ 0
  pub wins_none : won 0 ≡ 0
  pub enough : (p : ℕ) → p < 3 → more (stake (guest_at s p)) ≤ purse (guest_at s p)

module _ (f : Money → Money) (more won : ℕ → ℕ) (s : Seat) (pays : Pays f more won s) where
  -- the seat so changed has each guest so changed
  pub all-pay : (p : ℕ) → (guest_at (map_guests f s) p).money ≡ f (guest_at s p).money
  all-pay p =
      let nothing : (f missing_money).purse ≡ 0 = omega (arith, pays.moves missing_money (omega (arith, pays.lays_none)), pays.lays_none, pays.wins_none) in
      guest_mapped f s p (pays.keeps missing_money ∙ ap (with_purse missing_money) nothing)

  enough-everywhere : (p : ℕ) → more (stake (guest_at s p)) ≤ purse (guest_at s p)
  enough-everywhere p = go (dec_le 3 p)
    where
      go : Dec (3 ≤ p) → more (stake (guest_at s p)) ≤ purse (guest_at s p)
      go (yes h) =
          let none = guest_beyond s p (omega (arith, pays.two)) in
          omega (arith, ap (λ (m : Money). more m.stake) none, pays.lays_none)
      go (no h) = pays.enough p (omega arith)

  -- then each guest has what it had but for the purse, and the purse pays
  module _ (paid : Seat) (each : (p : ℕ) → (guest_at paid p).money ≡ f (guest_at s p).money) where
    pub paid_money : (p : ℕ) → (guest_at paid p).money ≡ with_purse (guest_at s p).money (purse (guest_at paid p))
    paid_money p = each p ∙ pays.keeps (guest_at s p).money ∙ ap (λ (m : Money). with_purse (guest_at s p).money m.purse) (sym (each p))

    pub paid_purse_lem : (p : ℕ) → purse (guest_at paid p) + more (stake (guest_at s p)) ≡ purse (guest_at s p) + won (stake (guest_at s p))
    paid_purse_lem p = omega (arith, ap (λ (m : Money). m.purse) (each p), pays.moves (guest_at s p).money (enough-everywhere p))

-- 15 of double and split does not hold: each guest's purse has its own stake
pub all_enough : (s : Seat) → purse_short s ≡ false → (p : ℕ) → p < 3 → stake (guest_at s p) ≤ purse (guest_at s p)
all_enough s none p h = ltb-false (purse (guest_at s p)) (stake (guest_at s p)) (no_guest (λ g. ltb (purse g) (stake g)) s none p h)
