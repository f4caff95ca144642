-- The cards of the first faces, one face more.
use mathlib.Core.Path.{◌≡◌, refl, sym, ◌∙◌, ap}
use mathlib.Core.List.{List, [], ◌∷◌}
use Rattle.std.specs.List.{sum}
use Rattle.lists.proofs.Chains.{sum_of-sum_by}
use Prim.Native.Nat.{ℕ, zero, suc, ◌+◌, ◌*◌, ◌≤◌, ◌<◌}
use native.Mathlib.Nat.{mul-one, mul-zero}
use native.Mathlib.Decide.{ℕ_discrete}
use native.Mathlib.Omega.{arith}
use lib.ListN.{length, take, get_or, replicate, set, length-append, length-replicate}
use lib.Seq.{get_or-set_same, get_or-set_other}
use Rattle.lists.specs.Sum.{sum_of, is_it}
use Rattle.lists.proofs.Numbered.{numbered_next}
use Rattle.lists.proofs.Sums.{sum-append}
use Rattle.bank_chances.specs.CardsLeft.{cards_from, cards_left}
use Rattle.bank_chances.specs.Aids.Ways.{stand_in, Standing}
use Rattle.bank_chances.proofs.Groups.{sum-replicate, is_it_lem, is_not}

pub faces-next : (w : ℕ → ℕ) (left : List ℕ) (i : ℕ) → i < length left → sum_of w (cards_left (take (i + 1) left)) ≡ sum_of w (cards_left (take i left)) + get_or left i 0 * w i
unfolding cards_from
faces-next w left i h =
    ap (sum_of w) (numbered_next cards_from (λ face count. replicate count face) (λ i. refl) (λ i x xs. refl) i left 0 h)
    ∙ sum-append w (cards_left (take i left)) (replicate (get_or left i 0) i)
    ∙ ap (λ (n : ℕ). sum_of w (cards_left (take i left)) + n) (sum-replicate w (get_or left i 0) i)

-- before the first face
pub none-at : (n p : ℕ) → get_or {A = ℕ} (replicate n 0) p 0 ≡ 0
none-at zero p = refl
none-at (suc n) zero = refl
none-at (suc n) (suc p) = none-at n p

-- a face's count added to that of its stand-in
module _ (left counts : List ℕ) (i at : ℕ) (ten : length counts ≡ 10) (stands : at ≡ stand_in i) where
  abbrev added : List ℕ
  added = set counts at (get_or counts at 0 + get_or left i 0)

  at-stand-in : (p : ℕ) → Dec (p ≡ at) → get_or added p 0 ≡ get_or counts p 0 + get_or left i 0 * is_it p (stand_in i)
  at-stand-in p (yes same) =
      rw (same, get_or-set_same counts at (get_or counts at 0 + get_or left i 0) 0 (omega arith)) (rw (is_it_lem at (stand_in i) (sym stands)) (omega (arith, mul-one (get_or left i 0))))
  at-stand-in p (no other) =
      rw (get_or-set_other counts at p (get_or counts at 0 + get_or left i 0) 0 other) (rw (is_not p (stand_in i) (λ e. other (sym e ∙ sym stands))) (omega (arith, mul-zero (get_or left i 0))))

  pub standing-next : i < length left → Standing (cards_left (take i left)) counts → Standing (cards_left (take (i + 1) left)) added
  standing-next h so =
      record { each = λ p l. at-stand-in p (ℕ_discrete p at) ∙ omega (arith, so.each p l, faces-next (λ card. is_it p (stand_in card)) left i h) }

  pub few_next : get_or left i 0 < 256 → ((p : ℕ) → get_or counts p 0 ≤ 255 * i) → (p : ℕ) → get_or added p 0 ≤ 255 * (i + 1)
  few_next byte few p = go (ℕ_discrete p at)
    where
      go : Dec (p ≡ at) → get_or added p 0 ≤ 255 * (i + 1)
      go (yes same) = rw (same, get_or-set_same counts at (get_or counts at 0 + get_or left i 0) 0 (omega arith)) (omega (arith, few at))
      go (no other) = rw (get_or-set_other counts at p (get_or counts at 0 + get_or left i 0) 0 other) (omega (arith, few p))

-- how many cards: the counts added up
length-cards_from : (face : ℕ) (left : List ℕ) → length (cards_from face left) ≡ sum_of (λ count. count) left
unfolding cards_from sum_of
length-cards_from face [] = refl
length-cards_from face (count ∷ counts) = omega (arith, length-append (replicate count face) (cards_from (suc face) counts), length-replicate count face, length-cards_from (suc face) counts)

pub length-cards_left : (left : List ℕ) → length (cards_left left) ≡ sum left
length-cards_left left = length-cards_from 0 left ∙ sum_of-sum_by (λ count. count) left
