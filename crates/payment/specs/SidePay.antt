-- Request 2.6: the pay of a side stake by its kind; article 13 says what wins, article 14 what it pays. It reads the seat's first two cards and, where these were split,
-- the next card drawn, in this order.
use Rattle.std.specs.Prelude.{Bool, cond, ◌&&◌, List, ℕ, ◌+◌, ◌*◌, ltb, eqb, length, get_or, take}
use Rattle.cards.specs.Card.{rank_of, suit_of}
use Rattle.cards.specs.Pair.{is_pair}
use Rattle.cards.specs.Total.{low_sum}
use Rattle.payment.specs.declared.pay.Pay.{Pay}
use Rattle.payment.specs.Pay.{pay}

-- Kind 1, any pair (article 13 1) (1), article 14 n.º 1): the first two cards are a pair, 11 to 1. A pair after a split (article 13 1) (2)) isn't offered.
unfoldable pub pair_odds : List ℕ → ℕ
pair_odds first = cond (is_pair (take 2 first)) 11 0

unfoldable pub is_seven : ℕ → Bool
is_seven card = eqb (rank_of card) 6

unfoldable pub same_suit : ℕ → ℕ → Bool
same_suit a b = eqb (suit_of a) (suit_of b)

-- Kind 2, sevens (article 13 2), article 14 n.º 2): the first two cards are sevens, 50 to 1, or 150 in one suit; if they are split and the next card drawn is a seven,
-- 500 to 1, or 5000 if all three are of one suit; the larger only.
unfoldable pub sevens_odds : List ℕ → ℕ
sevens_odds first =
    let one = get_or first 0 0 in
    let two = get_or first 1 0 in
    let three = get_or first 2 0 in
    cond (is_pair (take 2 first) && is_seven one)
    (cond (eqb (length first) 3 && is_seven three)
    (cond (same_suit one two && same_suit one three) 5000 500)
    (cond (same_suit one two) 150 50))
    0

-- Kinds 3 and 4 (article 13 3), article 14 n.º 3): the first two cards come to more, or to less, than 13, 1 to 1; an ace counts one, and 13 loses both.
unfoldable pub more_odds : List ℕ → ℕ
more_odds first = cond (ltb 13 (low_sum (take 2 first))) 1 0

unfoldable pub less_odds : List ℕ → ℕ
less_odds first = cond (ltb (low_sum (take 2 first)) 13) 1 0

-- What a kind pays to one; 0 where it loses.
unfoldable pub side_odds : ℕ → List ℕ → ℕ
side_odds kind first =
    cond (eqb kind 1) (pair_odds first)
    (cond (eqb kind 2) (sevens_odds first)
    (cond (eqb kind 3) (more_odds first)
    (cond (eqb kind 4) (less_odds first)
    0)))

-- n lay there; where it wins n goes back with the odds, else nothing.
unfoldable pub side_pay : ℕ → ℕ → List ℕ → Pay
side_pay kind n first = pay n (cond (ltb 0 (side_odds kind first)) (n + side_odds kind first * n) 0)
