-- The test of four side stakes, without a stake and with one; that of the prizes; and that of the seated guest's stake, where there is none.
use mathlib.Core.Path.{◌≡◌, refl, sym, ap, ap₂, ◌∙◌}
use mathlib.Core.Bool.{Bool, true, false, not, or-false, ◌&&◌, ◌||◌}
use Prim.Native.Nat.{ℕ, ◌+◌, ◌≤◌}
use native.Mathlib.Omega.{arith}
use native.Mathlib.Decide.{dec_le}
use lib.Dec.{eqb, leb, ltb}
use lib.ListN.{get_or}
use borrow.Author.Tests.{lt-ltb, le-ltb, le-leb, eq-eqb, ne_eqb}
use Rattle.lists.specs.Below.{all_below}
use Rattle.lists.proofs.Below.{all_below_lem, below_all, all_below-same}
use Rattle.options.specs.declared.Options.{Options}
use Rattle.options.specs.Permitted.{most_side}
use Rattle.table.specs.declared.Seat.{Seat}
use Rattle.table.specs.Seat.{guest_at, purse, stake, sides, is_staked}
use Rattle.table.specs.Broken.{sound_sides, sound_prizes, seated_first}
use Rattle.table.proofs.Guests.{guest-seated}
use Rattle.money.specs.declared.sums.Sums.{Sums}
use Rattle.money.specs.Sums.{guest_sums}

-- none is within the limit, so that a test for none adds nothing
small : (n : ℕ) → eqb n 0 || leb n most_side ≡ leb n most_side
small n = go (dec_le n 0)
  where
    go : Dec (n ≤ 0) → eqb n 0 || leb n most_side ≡ leb n most_side
    go (yes none) = simp (eq-eqb n 0 (omega arith)) (sym (le-leb n most_side (omega arith)))
    go (no some) = simp (ne_eqb n 0 (omega arith))

-- the test of the prizes, by the guest's sums
pub by_sums : (o : Options) (s : Seat) (m : Sums) → m ≡ guest_sums o s → leb m.prizes (purse s + m.laid) ≡ sound_prizes o s
unfolding sound_prizes
by_sums o s m e = ap (λ (x : Sums). leb x.prizes (purse s + x.laid)) e

module _ (s : Seat) where
  pub sides-none : all_below (λ k. eqb (get_or (sides s) k 0) 0) 4 ≡ true → sound_sides s ≡ true
  unfolding sound_sides
  sides-none none = below_all _ 4 (λ k h. simp (all_below_lem (λ k. eqb (get_or (sides s) k 0) 0) 4 k none h))

  pub sides_unstaked : is_staked s ≡ false → sound_sides s ≡ all_below (λ k. eqb (get_or (sides s) k 0) 0) 4
  unfolding sound_sides
  sides_unstaked e = all_below-same _ _ 4 (λ k h. simp (e, or-false))

  pub sides-staked : is_staked s ≡ true → sound_sides s ≡ all_below (λ k. leb (get_or (sides s) k 0) most_side) 4
  unfolding sound_sides
  sides-staked e = all_below-same _ _ 4 (λ k h. simp e (small (get_or (sides s) k 0)))

  -- a guest without a stake at the seat: nobody may have one
  pub unseated : stake s ≤ 0 → seated_first s ≡ eqb (stake (guest_at s 1)) 0 && eqb (stake (guest_at s 2)) 0
  unfolding seated_first
  unseated none = simp (guest-seated s, le-ltb 0 (stake s) none) (go (stake (guest_at s 1)) (stake (guest_at s 2)))
    where
      is_none : (n : ℕ) → eqb n 0 ≡ not (ltb 0 n)
      is_none n = pick (dec_le n 0)
        where
          pick : Dec (n ≤ 0) → eqb n 0 ≡ not (ltb 0 n)
          pick (yes h) = eq-eqb n 0 (omega arith) ∙ ap not (sym (le-ltb 0 n h))
          pick (no h) = ne_eqb n 0 (λ e. omega arith) ∙ ap not (sym (lt-ltb 0 n (omega arith)))

      both : (a b : Bool) → not (a || b) ≡ not a && not b
      both true b = refl
      both false b = refl

      go : (a b : ℕ) → not (ltb 0 a || ltb 0 b) ≡ eqb a 0 && eqb b 0
      go a b = both (ltb 0 a) (ltb 0 b) ∙ sym (ap₂ ◌&&◌ (is_none a) (is_none b))
