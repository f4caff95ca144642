-- The bank's cards out of the shoe: one more, the last, and all of them.
use mathlib.Core.Path.{◌≡◌}
use mathlib.Core.Bool.{true}
use mathlib.Core.List.{List, [], ◌∷◌, ◌++◌}
use Prim.Native.Nat.{ℕ, ◌+◌, ◌*◌, ◌≤◌, ◌<◌}
use native.Mathlib.Numerals.{add-one}
use native.Mathlib.Omega.{arith}
use lib.ListN.{length, take, drop, get_or, drop_of_length-le}
use lib.Seq.{drop-cons}
use Rattle.payment.specs.Bank.{must_draw, bank_takes}
use Rattle.table.specs.declared.Table.{Table}
use Rattle.table.specs.Table.{bank_cards, cards_left}
use Rattle.shoe.proofs.Left.{left-length, left_at}
use Rattle.close_spec.specs.BankDraw.{bank_burn, bank_at_close}

-- the cards left behind a place of the order
module _ (order : List ℕ) (all : ℕ) (within : all ≤ length order) (drawn : ℕ) (cards : List ℕ) (n : ℕ) where
  pub draws_more : drawn + n < all → must_draw cards ≡ true
      → bank_takes (cards ++ (get_or order (drawn + n) 0 ∷ [])) (drop (n + 1) (drop drawn (take all order))) ≡ bank_takes cards (drop n (drop drawn (take all order)))
  unfolding bank_takes
  draws_more h draws =
      let left = drop drawn (take all order) in
      rw (add-one, drop-cons left n 0 (omega (arith, left-length order all within drawn)), left_at order all within drawn n h) (simp draws)

  pub draws-none : all ≤ drawn + n → bank_takes cards (drop n (drop drawn (take all order))) ≡ cards
  unfolding bank_takes
  draws-none h = rw (drop_of_length-le (drop drawn (take all order)) {i = n} (omega (arith, left-length order all within drawn)))

-- what the bank takes of them from its burn on
pub draws-whole : (t : Table) (burn left : ℕ) → burn ≡ bank_burn t.options → left ≡ cards_left t → t.shoe.drawn ≤ 52 * t.options.decks
    → bank_takes (bank_cards t) (drop burn (drop t.shoe.drawn (take (t.shoe.drawn + left) t.shoe.order))) ≡ bank_at_close t
unfolding bank_at_close
draws-whole t burn left burnt count fits = let all : t.shoe.drawn + left ≡ 52 * t.options.decks = omega arith in rw (burnt, all)
