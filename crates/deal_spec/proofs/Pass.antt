-- A pass over the seats, whatever it gives: each staked seat has the card of its place among the staked seats, the others stay,
-- and together the seats have the next cards of the order.
use mathlib.Core.Path.{◌≡◌, refl, sym, ◌∙◌, ap, ap₂}
use mathlib.Core.Bool.{Bool, true, false, cond}
use mathlib.Core.List.{List, [], ◌∷◌, map}
use Prim.Native.Nat.{ℕ, zero, suc, ◌+◌, ◌≤◌}
use native.Mathlib.Omega.{arith}
use lib.ListN.{length, take, drop, get_or, length-map}
use lib.Seq.{drop-cons}
use Rattle.lists.specs.Sum.{sum_of}
use Rattle.lists.proofs.Sums.{sum-map}
use Rattle.lists.proofs.Places.{map-take}
use Rattle.table.specs.declared.Seat.{Seat}
use Rattle.table.specs.Seat.{missing_seat, is_staked}
use Rattle.deal_spec.specs.Pass.{pass}
use Rattle.deal_spec.specs.Deal.{staked_seats}

module _ (give : Seat → ℕ → Seat) (order : List ℕ) where
  -- a view that a card does not change
  pub pass_view : {B : Type 0} (v : Seat → B) → ((s : Seat) (card : ℕ) → v (give s card) ≡ v s) → (n : ℕ) (seats : List Seat) → map v (pass give order n seats) ≡ map v seats
  unfolding pass
  pass_view v same n [] = refl
  pass_view {B} v same n (s ∷ ss) = go (is_staked s) (pass_view v same (suc n) ss) (pass_view v same n ss)
    where
      go : (b : Bool) → map v (pass give order (suc n) ss) ≡ map v ss → map v (pass give order n ss) ≡ map v ss
          → map v (cond b (give s (get_or order n 0) ∷ pass give order (suc n) ss) (s ∷ pass give order n ss)) ≡ v s ∷ map v ss
      go true given idle = ap₂ (λ (x : B) (xs : List B). x ∷ xs) (same s (get_or order n 0)) given
      go false given idle = ap (λ (xs : List B). v s ∷ xs) idle

  pub pass-length : (n : ℕ) (seats : List Seat) → length (pass give order n seats) ≡ length seats
  pass-length n seats =
      sym (length-map (pass give order n seats) is_true) ∙ ap length (pass_view is_true (λ s card. refl) n seats) ∙ length-map seats is_true
    where
      is_true : Seat → Bool
      is_true s = true

  -- a sum over the seats that a card leaves
  pub pass-sum : (f : Seat → ℕ) → ((s : Seat) (card : ℕ) → f (give s card) ≡ f s) → (n : ℕ) (seats : List Seat) → sum_of f (pass give order n seats) ≡ sum_of f seats
  pass-sum f same n seats =
      sym (sum-map (λ k. k) f (pass give order n seats)) ∙ ap (sum_of (λ k. k)) (pass_view f same n seats) ∙ sum-map (λ k. k) f seats

  -- the seat at a place
  pub pass-at : (n : ℕ) (seats : List Seat) (i : ℕ)
      → get_or (pass give order n seats) i missing_seat
      ≡ cond (is_staked (get_or seats i missing_seat)) (give (get_or seats i missing_seat) (get_or order (n + staked_seats (take i seats)) 0)) (get_or seats i missing_seat)
  unfolding pass sum_of
  pass-at n [] i = refl
  pass-at n (s ∷ ss) zero = go (is_staked s)
    where
      go : (b : Bool) → get_or (cond b (give s (get_or order n 0) ∷ pass give order (suc n) ss) (s ∷ pass give order n ss)) 0 missing_seat ≡ cond b (give s (get_or order (n + 0) 0)) s
      go true = let same : n ≡ n + 0 = omega arith in ap (λ (k : ℕ). give s (get_or order k 0)) same
      go false = refl
  pass-at n (s ∷ ss) (suc i) = go (is_staked s) (pass-at (suc n) ss i) (pass-at n ss i)
    where
      at : ℕ → Seat
      at k = cond (is_staked (get_or ss i missing_seat)) (give (get_or ss i missing_seat) (get_or order k 0)) (get_or ss i missing_seat)

      go : (b : Bool) → get_or (pass give order (suc n) ss) i missing_seat ≡ at (suc n + staked_seats (take i ss)) → get_or (pass give order n ss) i missing_seat ≡ at (n + staked_seats (take i ss))
          → get_or (cond b (give s (get_or order n 0) ∷ pass give order (suc n) ss) (s ∷ pass give order n ss)) (suc i) missing_seat ≡ at (n + (cond b 1 0 + staked_seats (take i ss)))
      go true given idle = let same : suc n + staked_seats (take i ss) ≡ n + (1 + staked_seats (take i ss)) = omega arith in given ∙ ap at same
      go false given idle = let same : n + staked_seats (take i ss) ≡ n + (0 + staked_seats (take i ss)) = omega arith in idle ∙ ap at same

  -- what holds of it, staked or not
  pub pass_either : (n : ℕ) (seats : List Seat) (i : ℕ) (P : Seat → Type 0)
      → (is_staked (get_or seats i missing_seat) ≡ true → P (give (get_or seats i missing_seat) (get_or order (n + staked_seats (take i seats)) 0)))
      → (is_staked (get_or seats i missing_seat) ≡ false → P (get_or seats i missing_seat)) → P (get_or (pass give order n seats) i missing_seat)
  pass_either n seats i P given idle = rw (pass-at n seats i) (go (is_staked (get_or seats i missing_seat)) refl)
    where
      go : (b : Bool) → is_staked (get_or seats i missing_seat) ≡ b → P (cond b (give (get_or seats i missing_seat) (get_or order (n + staked_seats (take i seats)) 0)) (get_or seats i missing_seat))
      go true e = given e
      go false e = idle e

  -- how many of the first are staked stays, where a card leaves the stake
  pub pass-staked : ((s : Seat) (card : ℕ) → is_staked (give s card) ≡ is_staked s) → (n : ℕ) (seats : List Seat) (i : ℕ) → staked_seats (take i (pass give order n seats)) ≡ staked_seats (take i seats)
  pass-staked same n seats i =
      sym (staked-map (pass give order n seats)) ∙ ap (λ (bs : List Bool). sum_of one (take i bs)) (pass_view is_staked same n seats) ∙ staked-map seats
    where
      one : Bool → ℕ
      one b = cond b 1 0

      staked-map : (xs : List Seat) → sum_of one (take i (map is_staked xs)) ≡ staked_seats (take i xs)
      staked-map xs = ap (sum_of one) (sym (map-take is_staked i xs)) ∙ sum-map one is_staked (take i xs)

  -- the cards that a pass gives, whatever is summed over them
  pub pass-cards : (f : Seat → ℕ) (w : ℕ → ℕ) (n : ℕ) (seats : List Seat) → n + staked_seats seats ≤ length order
      → ((i : ℕ) → is_staked (get_or seats i missing_seat) ≡ true → (card : ℕ) → f (give (get_or seats i missing_seat) card) ≡ f (get_or seats i missing_seat) + w card)
      → sum_of f (pass give order n seats) ≡ sum_of f seats + sum_of w (take (staked_seats seats) (drop n order))
  unfolding pass sum_of
  pass-cards f w n [] room each = refl
  pass-cards f w n (s ∷ ss) room each =
      go (is_staked s) refl room (λ r. pass-cards f w (suc n) ss r (λ i. each (suc i))) (λ r. pass-cards f w n ss r (λ i. each (suc i)))
    where
      go : (b : Bool) → is_staked s ≡ b → n + (cond b 1 0 + staked_seats ss) ≤ length order
          → (suc n + staked_seats ss ≤ length order → sum_of f (pass give order (suc n) ss) ≡ sum_of f ss + sum_of w (take (staked_seats ss) (drop (suc n) order)))
          → (n + staked_seats ss ≤ length order → sum_of f (pass give order n ss) ≡ sum_of f ss + sum_of w (take (staked_seats ss) (drop n order)))
          → sum_of f (cond b (give s (get_or order n 0) ∷ pass give order (suc n) ss) (s ∷ pass give order n ss)) ≡ f s + sum_of f ss + sum_of w (take (cond b 1 0 + staked_seats ss) (drop n order))
      go true staked r given idle =
          let next : drop n order ≡ get_or order n 0 ∷ drop (suc n) order = drop-cons order n 0 (omega arith) in
          let more : 1 + staked_seats ss ≡ suc (staked_seats ss) = omega arith in
          rw (next, more) (omega (arith, each 0 staked (get_or order n 0), given (omega arith)))
      go false staked r given idle =
          let same : 0 + staked_seats ss ≡ staked_seats ss = omega arith in
          rw same (omega (arith, idle (omega arith)))
