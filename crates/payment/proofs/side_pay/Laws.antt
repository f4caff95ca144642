-- No kind pays more than 5000 to one.
use mathlib.Core.Bool.{◌&&◌}
use mathlib.Core.List.{List}
use Prim.Native.Nat.{ℕ, ◌≤◌}
use native.Mathlib.Omega.{arith}
use lib.Dec.{ltb, eqb}
use lib.ListN.{length, take, get_or}
use Rattle.lists.proofs.Picks.{cond_most}
use Rattle.cards.specs.Pair.{is_pair}
use Rattle.cards.specs.Total.{low_sum}
use Rattle.payment.specs.SidePay.{is_seven, same_suit, pair_odds, sevens_odds, more_odds, less_odds, side_odds}

pub pair_most : (first : List ℕ) → pair_odds first ≤ 5000
unfolding pair_odds
pair_most first = cond_most (is_pair (take 2 first)) (omega arith) (omega arith)

pub sevens_most : (first : List ℕ) → sevens_odds first ≤ 5000
unfolding sevens_odds
sevens_most first =
    let one = get_or first 0 0 in
    let two = get_or first 1 0 in
    let three = get_or first 2 0 in
    cond_most (is_pair (take 2 first) && is_seven one)
    (cond_most (eqb (length first) 3 && is_seven three)
    (cond_most (same_suit one two && same_suit one three) (omega arith) (omega arith))
    (cond_most (same_suit one two) (omega arith) (omega arith)))
    (omega arith)

pub odds_most : (kind : ℕ) (first : List ℕ) → side_odds kind first ≤ 5000
unfolding side_odds more_odds less_odds
odds_most kind first =
    cond_most (eqb kind 1) (pair_most first)
    (cond_most (eqb kind 2) (sevens_most first)
    (cond_most (eqb kind 3) (cond_most (ltb 13 (low_sum (take 2 first))) (omega arith) (omega arith))
    (cond_most (eqb kind 4) (cond_most (ltb (low_sum (take 2 first)) 13) (omega arith) (omega arith)) (omega arith))))
