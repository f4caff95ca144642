-- Document 01, "The history", rounds: deal gives each seat that staked in the round one hand. A decision in turn goes to the hand whose turn it is, surrender to the
-- seat's only hand. Split moves the second card to the new hand. A hand keeps its cards, where it comes from and how it ended; W follows.
use Rattle.std.specs.Prelude.{cond, ◌&&◌, List, [], ◌∷◌, ◌++◌, ℕ, suc, ◌+◌, ltb, eqb, length, get_or, take, drop, set}
use Rattle.lists.specs.Below.{first_below}
use Rattle.cards.specs.Card.{is_ace}
use Rattle.options.specs.declared.Options.{Options}
use Rattle.rules.specs.SeatHand.{Played, dealt, split, split_aces, not_ended, by_stand, by_double, by_surrender, by_even, by_five}
use Rattle.rules.specs.Turn.{seat_waits, waiting_place}
use Rattle.history.specs.Entry.{Entry, is_of, is_deal, is_stand, is_draw, is_double, is_split, is_surrender, is_even, is_five, is_end}
use Rattle.history.specs.Rounds.{stake_in, staked_below}
use Rattle.history.specs.Cards.{Cards, deal_burns, cards_of_history}

abbrev pub played : List ℕ → ℕ → ℕ → Played
played cards origin ended = record { cards = cards; origin = origin; ended = ended }

-- What stands where a seat has no such hand.
abbrev pub missing_hand : Played
missing_hand = played [] dealt not_ended

-- A deal: behind the burn lie a first card for each staked seat from the lowest, the bank's, then a second for each.
-- The seat has `before` staked seats below it, of `staked` in all.
unfoldable pub dealt_hand : Options → Cards → ℕ → ℕ → Played
dealt_hand o c before staked =
    played
    (get_or c.order (c.taken + deal_burns o c + before) 0 ∷ get_or c.order (c.taken + deal_burns o c + staked + 1 + before) 0 ∷ [])
    dealt not_ended

-- The next card of the order, and the one behind it.
abbrev pub next_card : Cards → ℕ → ℕ
next_card c n = get_or c.order (c.taken + n) 0

-- A hand with one card more, and a hand ended by a decision.
abbrev pub grown : Played → ℕ → Played
grown h card = played (h.cards ++ (card ∷ [])) h.origin h.ended

abbrev pub finished : Played → ℕ → Played
finished h code = played h.cards h.origin code

-- The two hands of a split: each keeps a card of the pair and takes one, the parent first.
unfoldable pub split_one : ℕ → ℕ → Played
split_one kept card = played (kept ∷ card ∷ []) (cond (is_ace kept) split_aces split) not_ended

unfoldable pub split_hands : List Played → ℕ → Cards → List Played
split_hands hands p c =
    let pair = (get_or hands p missing_hand).cards in
    take p hands ++ split_one (get_or pair 0 0) (next_card c 0) ∷ split_one (get_or pair 1 0) (next_card c 1) ∷ drop (suc p) hands

-- The seat whose turn it is (article 6 3)): the first with a waiting hand; the number of seats where it is nobody's. `hands` gives those of each seat.
abbrev pub turn_in : Options → Cards → (ℕ → List Played) → ℕ
turn_in o c hands = first_below (λ k. seat_waits o (get_or c.bank 0 0) (hands k)) o.seats

-- What a decision in turn makes of the hands of that seat, p being the place whose turn it is.
unfoldable pub decide : List Played → ℕ → Cards → Entry → List Played
decide hands p c e =
    let h = get_or hands p missing_hand in
    cond (is_stand e) (set hands p (finished h by_stand))
    (cond (is_draw e) (set hands p (grown h (next_card c 0)))
    (cond (is_double e) (set hands p (finished (grown h (next_card c 0)) by_double))
    (cond (is_split e) (split_hands hands p c)
    (cond (is_even e) (set hands p (finished h by_even))
    (cond (is_five e) (set hands p (finished h by_five))
    hands)))))

-- Surrender goes to the seat's only hand.
unfoldable pub surrenders : List Played → List Played
surrenders hands = set hands 0 (finished (get_or hands 0 missing_hand) by_surrender)

-- What a call makes of the hands of seat i. `before` and `staked` count staked seats, S is its seated guest's stake, `turn` the seat whose turn it is. A decision in
-- turn goes to that seat, whichever it names; surrender goes to the one that it names.
unfoldable pub hands_after : Options → Cards → ℕ → ℕ → ℕ → ℕ → ℕ → List Played → Entry → List Played
hands_after o c i before staked S turn hands e =
    cond (is_deal e) (cond (ltb 0 S) (dealt_hand o c before staked ∷ []) [])
    (cond (is_end e) []
    (cond (is_surrender e) (cond (is_of i e) (surrenders hands) hands)
    (cond (eqb i turn) (decide hands (waiting_place o (get_or c.bank 0 0) hands) c e)
    hands)))

-- The hands of a seat after a list of accepted calls.
abbrev pub hands_in : Options → List ℕ → List Entry → ℕ → List Played
hands_in o opening [] i = []
hands_in o opening (e ∷ es) i =
    hands_after o (cards_of_history o opening es) i (staked_below es i) (staked_below es o.seats) (stake_in es i 0) (turn_in o (cards_of_history o opening es) (λ k. hands_in o opening es k))
    (hands_in o opening es i) e

-- The first cards of a seat in this round (request 2.6): its two dealt cards, and behind them, once they are split, the next card drawn, which goes to the parent. Later
-- splits change nothing. `turn` is the seat whose turn it is.
unfoldable pub first_after : Cards → ℕ → ℕ → List Played → List Played → List ℕ → Entry → List ℕ
first_after c i turn before after first e =
    cond (is_deal e) (get_or after 0 missing_hand).cards
    (cond (is_end e) []
    (cond (is_split e && eqb i turn && eqb (length before) 1) (first ++ (next_card c 0 ∷ []))
    first))

abbrev pub first_in : Options → List ℕ → List Entry → ℕ → List ℕ
first_in o opening [] i = []
first_in o opening (e ∷ es) i =
    first_after (cards_of_history o opening es) i (turn_in o (cards_of_history o opening es) (λ k. hands_in o opening es k)) (hands_in o opening es i) (hands_in o opening (e ∷ es) i)
    (first_in o opening es i) e
