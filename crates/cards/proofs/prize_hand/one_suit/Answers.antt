-- `one_suit` asks card by card.
use Rattle.std.proofs.Common.{rules, tests, eqb, get_or}
use Rattle.std.proofs.lemmas.Iterator.{YieldsList-from_slice}
use Rattle.std.proofs.lemmas.Iterator.Search.{all_from_yields_List}
use Rattle.lists.proofs.Chains.{all_of-list_all}
use Rattle.cards.specs.Card.{suit_of}
use Rattle.cards.proofs.prize_hand.one_suit.Goals as goal

pub returns : goal.returns
returns c =
    let cards = c.args.cards.now in
    rw all_of-list_all (all_from_yields_List (λ card. eqb (suit_of card) (suit_of (get_or cards 0 0))) _ _ _ c.all.ensures.ran (YieldsList-from_slice cards cc) (λ x b q k. search (rules, tests)))
