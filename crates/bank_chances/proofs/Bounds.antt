-- No count passes 416^6: there are at most 416 cards, and at most six are drawn.
use mathlib.Core.Path.{◌≡◌, ◌∙◌}
use mathlib.Core.List.{List, [], ◌∷◌, ◌++◌}
use Prim.Native.Nat.{ℕ, zero, suc, ◌+◌, ◌-◌, ◌*◌, ◌≤◌, ◌<◌}
use native.Mathlib.Nat.{mul-le-mul, le_trans, one-mul, add-mul}
use native.Mathlib.Decide.{dec_le}
use native.Mathlib.Omega.{arith}
use lib.Dec.{eqb}
use lib.ListN.{length, get_or, length-set}
use Rattle.lists.specs.Below.{sum_below}
use Rattle.lists.specs.Sum.{sum_of, is_it}
use Rattle.lists.proofs.Below.{sum_by_place}
use Rattle.lists.proofs.Picks.{cond_most}
use Rattle.lists.proofs.Sums.{sum-set}
use Rattle.payment.specs.Bank.{must_draw}
use Rattle.bank_chances.specs.Draws.{falling}
use Rattle.bank_chances.specs.Ending.{ending_of}
use Rattle.bank_chances.specs.Aids.Ways.{without, ways, ways_with}

-- 416^k
pub most : ℕ → ℕ
most zero = 1
most (suc k) = 416 * most k

pub most-six : (k : ℕ) → k ≤ 6 → most k ≤ 5182746699759616
unfolding most
most-six zero h = omega arith
most-six (suc zero) h = omega arith
most-six (suc (suc zero)) h = omega arith
most-six (suc (suc (suc zero))) h = omega arith
most-six (suc (suc (suc (suc zero)))) h = omega arith
most-six (suc (suc (suc (suc (suc zero))))) h = omega arith
most-six (suc (suc (suc (suc (suc (suc zero)))))) h = omega arith
most-six (suc (suc (suc (suc (suc (suc (suc k))))))) h = absurd (omega arith)

pub falling-most : (k n : ℕ) → n ≤ 416 → falling n k ≤ most k
unfolding falling most
falling-most zero n h = omega arith
falling-most (suc k) n h = mul-le-mul h (falling-most k (n - 1) (omega arith))

-- each term by its bound
terms_most : (a b : ℕ → ℕ) (m n : ℕ) → ((p : ℕ) → p < n → b p ≤ m) → sum_below (λ p. a p * b p) n ≤ sum_below a n * m
unfolding sum_below
terms_most a b m zero h = omega arith
terms_most a b m (suc n) h =
    let here : a n * b n ≤ a n * m = mul-le-mul (omega arith) (h n (omega arith)) in
    omega (arith, terms_most a b m n (λ p l. h p (omega arith)), add-mul (sum_below a n) (a n) m)

-- more terms, no smaller sum
grows : (f : ℕ → ℕ) (i n : ℕ) → i ≤ n → sum_below f i ≤ sum_below f n
unfolding sum_below
grows f i zero h = let none : i ≡ 0 = omega arith in rw none (omega arith)
grows f i (suc n) h = go (dec_le i n) (λ l. grows f i n l)
  where
    go : Dec (i ≤ n) → (i ≤ n → sum_below f i ≤ sum_below f n) → sum_below f i ≤ sum_below f n + f n
    go (yes l) rec = omega (arith, rec l)
    go (no l) rec = let same : i ≡ suc n = omega arith in rw same (omega arith)

pub fewer : (left : List ℕ) (p : ℕ) → p < length left → sum_of (λ count. count) (without left p) ≤ sum_of (λ count. count) left
fewer left p h = omega (arith, sum-set (λ count. count) left p (get_or left p 0 - 1) 0 h)

it_most : (e ending : ℕ) → is_it e ending ≤ 1
it_most e ending = cond_most (eqb ending e) (omega arith) (omega arith)

ended-most : (e ending n k : ℕ) → n ≤ 416 → is_it e ending * falling n k ≤ most k
ended-most e ending n k h = le_trans (mul-le-mul (it_most e ending) (falling-most k n h)) (omega (arith, one-mul (most k)))

module _ (left : List ℕ) (ten : length left ≡ 10) (few : sum_of (λ count. count) left ≤ 416) where
  drawn-most : (next : ℕ → ℕ) (m : ℕ) → ((p : ℕ) → p < 10 → next p ≤ m) → sum_below (λ p. get_or left p 0 * next p) 10 ≤ 416 * m
  drawn-most next m h =
      let all : sum_below (λ p. get_or left p 0) 10 ≤ 416 = rw (sum_by_place (λ count. count) left 0, ten) at few in
      le_trans (terms_most (λ p. get_or left p 0) next m 10 h) (mul-le-mul all (omega arith))

pub ways-most : (e k : ℕ) (bank left : List ℕ) (n : ℕ) → n ≤ 416 → length left ≡ 10 → sum_of (λ count. count) left ≤ 416 → ways e bank left n k ≤ most k
unfolding ways most
ways-most e zero bank left n many ten few = ended-most e (ending_of bank) n 0 many
ways-most e (suc k) bank left n many ten few =
    cond_most (must_draw bank)
    (drawn-most left ten few (λ p. ways e (bank ++ (p ∷ [])) (without left p) (n - 1) k) (most k) (λ p h.
    ways-most e k (bank ++ (p ∷ [])) (without left p) (n - 1) (omega arith) (length-set left p (get_or left p 0 - 1) ∙ ten) (omega (arith, fewer left p (omega arith)))))
    (ended-most e (ending_of bank) n (suc k) many)

-- on the way: the terms before p and the one at p
pub ways-room : (e k : ℕ) (bank left : List ℕ) (n p : ℕ) → n ≤ 416 → length left ≡ 10 → sum_of (λ count. count) left ≤ 416 → k < 6 → p < 10
    → sum_below (ways_with e bank left n k) p + ways_with e bank left n k p < 18446744073709551616
unfolding most sum_below
ways-room e k bank left n p many ten few deep h =
    let whole =
    drawn-most left ten few (λ q. ways e (bank ++ (q ∷ [])) (without left q) (n - 1) k) (most k) (λ q l.
    ways-most e k (bank ++ (q ∷ [])) (without left q) (n - 1) (omega arith) (length-set left q (get_or left q 0 - 1) ∙ ten) (omega (arith, fewer left q (omega arith)))) in
    omega (arith, grows (ways_with e bank left n k) (suc p) 10 h, whole, most-six (suc k) deep)
