-- Document 01, "Payment", prize, article 15: three sevens, or a suited 6-7-8 in any order. Exactly three cards.
use Rattle.std.specs.Prelude.{Bool, ◌&&◌, ◌||◌, List, ℕ, eqb, length, get_or}
use Rattle.lists.specs.Tests.{any_of, all_of}
use Rattle.cards.specs.Card.{suit_of, rank_of}

-- The card is of the rank; the six has rank 5, the seven 6, the eight 7.
abbrev pub has_rank : ℕ → ℕ → Bool
has_rank rank card = eqb (rank_of card) rank

-- Every card is a seven.
unfoldable pub all_sevens : List ℕ → Bool
all_sevens cards = all_of (has_rank 6) cards

-- A six, a seven and an eight are there, and every card is of the first one's suit.
unfoldable pub suited_six_seven_eight : List ℕ → Bool
suited_six_seven_eight cards =
    any_of (has_rank 5) cards && any_of (has_rank 6) cards && any_of (has_rank 7) cards
    && all_of (λ card. eqb (suit_of card) (suit_of (get_or cards 0 0))) cards

-- Prize hand: three cards, all sevens or a suited 6-7-8.
unfoldable pub is_prize_hand : List ℕ → Bool
is_prize_hand cards = eqb (length cards) 3 && (all_sevens cards || suited_six_seven_eight cards)
