-- The cards in play are the hands' and the bank's, counted one behind the other.
use Rattle.card_count.proofs.out_cards.Counting.{counted_join}
use Rattle.card_count.proofs.out_cards.count_in_play.Goals as goal

pub returns : goal.returns
returns c =
    counted_join c.count_seats-hands.ensures c.count_hand.ensures
