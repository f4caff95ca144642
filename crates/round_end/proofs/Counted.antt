-- The round is counted by computation.
use mathlib.Core.Path.{refl}
use Rattle.lists.specs.Below.{sum_below}
use Rattle.cards.specs.Points.{points_of}
use Rattle.cards.specs.Total.{total}
use Rattle.history.specs.Cards.{deal_burns, close_burns, bank_more, bank_taken, call_takes, bank_after, cards_after}
use Rattle.host_spec.specs.History.{with_play}
use Rattle.round_end.specs.Rounds.{open_after, open_by, closed_by}
use Rattle.round_end.specs.Counted.{one_deck, first_cards, up_to_stand, with_close, Counted}

pub counted : Counted
unfolding sum_below one_deck first_cards up_to_stand with_close points_of total deal_burns close_burns bank_more bank_taken call_takes bank_after cards_after with_play open_after open_by closed_by
counted = record { running = refl; closed = refl }
