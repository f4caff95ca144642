-- The pays of a guest, added up: what lay there, what goes back, and that the net is their difference. An insurance or a side stake of 0 adds nothing to either sum,
-- so the sums do not ask whether there is one.
use mathlib.Core.Path.{◌≡◌, refl, ◌∙◌, subst₂}
use mathlib.Core.Bool.{Bool, true, false, cond}
use mathlib.Core.List.{List, [], ◌∷◌, ◌++◌}
use Prim.Native.Nat.{ℕ, ◌+◌, ◌*◌, ◌<◌, suc}
use native.Mathlib.Omega.{arith}
use lib.Dec.{ltb}
use lib.ListN.{get_or}
use borrow.Author.Tests.{ltb-false}
use Rattle.lists.specs.Sum.{sum_of}
use Rattle.lists.proofs.Sums.{sum-append}
use Rattle.lists.proofs.Picks.{cond_most}
use Rattle.lists.proofs.Differences.{Diff, diff_pos, diff_add, diff_sub}
use Rattle.options.specs.declared.Options.{Options}
use Rattle.rules.specs.SeatHand.{Played}
use Rattle.payment.specs.declared.bank.Score.{Score}
use Rattle.payment.specs.declared.pay.Pay.{Pay}
use Rattle.payment.specs.Wager.{wager}
use Rattle.payment.specs.Pay.{net}
use Rattle.payment.specs.HandPay.{hand_pay}
use Rattle.payment.specs.Insurance.{insurance_pay}
use Rattle.payment.specs.SidePay.{side_pay, side_odds}
use Rattle.payment.specs.Bets.{Bets, side, all_sides}
use Rattle.payment.specs.Pays.{Due, due, insurance_kind, side_kind, insurance_pays, hand_pays, side_due, side_pays, pays_of, laid_of, back_of, nets_of}

-- a part of a pay, of the four side stakes together
abbrev pub sides_part : (Pay → ℕ) → List ℕ → List ℕ → ℕ
sides_part part sides first =
    part (side_pay 1 (side sides 1) first) + part (side_pay 2 (side sides 2) first) + part (side_pay 3 (side sides 3) first) + part (side_pay 4 (side sides 4) first)

sum-four : (f : Due → ℕ) (a b c d : List Due) → sum_of f (a ++ b ++ c ++ d) ≡ sum_of f a + sum_of f b + sum_of f c + sum_of f d
sum-four f a b c d = omega (arith, sum-append f (a ++ b ++ c) d, sum-append f (a ++ b) c, sum-append f a b)

-- a sum over the pays, for any part of a pay
module _ (part : Pay → ℕ) where
  -- one pay that is there only where something lies, and is 0 where nothing does
  one-sum : (n kind : ℕ) (p : Pay) → (n ≡ 0 → part p ≡ 0) → sum_of (λ d. part d.pay) (cond (ltb 0 n) (due kind 0 p ∷ []) []) ≡ part p
  unfolding sum_of
  one-sum n kind p nothing = go (ltb 0 n) refl
    where
      go : (some : Bool) → ltb 0 n ≡ some → sum_of (λ d. part d.pay) (cond (ltb 0 n) (due kind 0 p ∷ []) []) ≡ part p
      go true e = simp e (omega arith)
      go false e = simp e (omega (arith, nothing (omega (arith, ltb-false 0 n e))))

  module _ (sides first : List ℕ) (none : (k n : ℕ) → n ≡ 0 → part (side_pay k n first) ≡ 0) where
    side-sum : (k : ℕ) → sum_of (λ d. part d.pay) (side_due k (side sides k) first) ≡ part (side_pay k (side sides k) first)
    unfolding side_due
    side-sum k = one-sum (side sides k) (side_kind k) (side_pay k (side sides k) first) (none k (side sides k))

    sides-sum : sum_of (λ d. part d.pay) (side_pays sides first) ≡ sides_part part sides first
    unfolding side_pays
    sides-sum =
        sum-four (λ d. part d.pay) (side_due 1 (side sides 1) first) (side_due 2 (side sides 2) first) (side_due 3 (side sides 3) first) (side_due 4 (side sides 4) first)
        ∙ rw (side-sum 1, side-sum 2, side-sum 3, side-sum 4) refl

module _ (part : Pay → ℕ) (o : Options) (bank : Score) where
  hand-sum : (S p : ℕ) (hs : List Played) → sum_of (λ d. part d.pay) (hand_pays o bank S p hs) ≡ sum_of (λ h. part (hand_pay o bank S h)) hs
  unfolding sum_of hand_pays
  hand-sum S p [] = refl
  hand-sum S p (h ∷ hs) = rw (hand-sum S (suc p) hs) refl

  module _ (b : Bets) (nothing : b.insurance ≡ 0 → part (insurance_pay bank b.insurance) ≡ 0)
      (none : (k n : ℕ) → n ≡ 0 → part (side_pay k n b.first) ≡ 0) where
    insurance-sum : sum_of (λ d. part d.pay) (insurance_pays bank b.insurance) ≡ part (insurance_pay bank b.insurance)
    unfolding insurance_pays
    insurance-sum = one-sum part b.insurance insurance_kind (insurance_pay bank b.insurance) nothing

    pays-sum : sum_of (λ d. part d.pay) (pays_of o bank b) ≡ sum_of (λ h. part (hand_pay o bank b.stake h)) b.hands + part (insurance_pay bank b.insurance) + sides_part part b.sides b.first
    unfolding pays_of
    pays-sum =
        omega (
          arith,
          sum-append (λ d. part d.pay) (insurance_pays bank b.insurance ++ side_pays b.sides b.first) (hand_pays o bank b.stake 0 b.hands),
          sum-append (λ d. part d.pay) (insurance_pays bank b.insurance) (side_pays b.sides b.first),
          insurance-sum,
          sides-sum part b.sides b.first none,
          hand-sum b.stake 0 b.hands,
        )

-- nothing goes back for a side stake of 0
none_back : (first : List ℕ) (k n : ℕ) → n ≡ 0 → (side_pay k n first).back ≡ 0
unfolding side_pay
none_back first k n none = rw none (omega (arith, cond_most (ltb 0 (side_odds k first)) {x = 0 + side_odds k first * 0} {y = 0} {k = 0} (omega arith) (omega arith)))

pub sides_back : (sides first : List ℕ) → back_of (side_pays sides first) ≡ sides_part (λ p. p.back) sides first
sides_back sides first = sides-sum (λ p. p.back) sides first (none_back first)

module _ (o : Options) (bank : Score) (b : Bets) where
  pub laid_of_lem : laid_of (pays_of o bank b) ≡ sum_of (wager b.stake) b.hands + b.insurance + all_sides b.sides
  unfolding insurance_pay side_pay
  laid_of_lem = pays-sum (λ p. p.laid) o bank b (λ none. none) (λ k n none. none)

  pub back_of_lem : back_of (pays_of o bank b) ≡ sum_of (λ h. (hand_pay o bank b.stake h).back) b.hands + (insurance_pay bank b.insurance).back + sides_part (λ p. p.back) b.sides b.first
  unfolding insurance_pay side_pay
  back_of_lem =
      pays-sum (λ p. p.back) o bank b
      (λ none. omega (arith, cond_most bank.natural {x = 3 * b.insurance} {y = 0} {k = 3 * b.insurance} (omega arith) (omega arith)))
      (none_back b.first)

-- side stakes are paid by their four numbers alone; where each is 0 nothing is due, whatever the first cards
pub same-sides : (sides first : List ℕ) (of : ℕ → ℕ) → ((k : ℕ) → k < 4 → get_or sides k 0 ≡ of (k + 1)) → side_pays sides first ≡ side_pays (of 1 ∷ of 2 ∷ of 3 ∷ of 4 ∷ []) first
unfolding side_pays
same-sides sides first of same = rw (same 0 (omega arith), same 1 (omega arith), same 2 (omega arith), same 3 (omega arith)) refl

pub no_side_pays : (sides first : List ℕ) → ((k : ℕ) → k < 4 → get_or sides k 0 ≡ 0) → side_pays sides first ≡ []
unfolding side_pays side_due
no_side_pays sides first none = rw (none 0 (omega arith), none 1 (omega arith), none 2 (omega arith), none 3 (omega arith)) refl

net_diff : (p : Pay) → Diff (net p) p.back p.laid
net_diff p = subst₂ (λ (a b : ℕ). Diff (net p) a b) (omega arith) (omega arith) (diff_sub (diff_pos p.back) (diff_pos p.laid))

-- the net of a list of pays is what goes back less what lay there
pub nets_diff : (ds : List Due) → Diff (nets_of ds) (back_of ds) (laid_of ds)
unfolding nets_of sum_of
nets_diff [] = diff_pos 0
nets_diff (d ∷ ds) = diff_add (net_diff d.pay) (nets_diff ds)
