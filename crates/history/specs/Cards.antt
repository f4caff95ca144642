-- Document 01, "The history", cards: an accepted load sets the cards drawn to none. Deal, draw, double, split and close take the next ones of its order,
-- as many as their lines say; other calls take none. The shoe is fresh until the first accepted deal after its load, the machine until the first since the opening. The
-- history draws as the device does (request 2.7).
use Rattle.std.specs.Prelude.{Bool, true, false, cond, ◌||◌, List, [], ◌∷◌, ◌++◌, ℕ, suc, ◌+◌, ◌*◌, leb, eqb, get_or, take, drop}
use Rattle.cards.specs.Total.{total}
use Rattle.options.specs.declared.Options.{Options}
use Rattle.options.specs.Device.{is_box, is_machine}
use Rattle.history.specs.Entry.{Entry, is_deal, is_draw, is_double, is_split, is_close, is_end, is_load}
use Rattle.history.specs.Rounds.{staked_below}

-- The order of the last load, whether the next deal is the first of a fresh shoe, how many of its cards are drawn, and the bank's cards.
pub record Cards : Type 0 where
  pub order : List ℕ
  pub fresh : Bool
  pub taken : ℕ
  pub bank : List ℕ

abbrev pub make_cards : List ℕ → Bool → ℕ → List ℕ → Cards
make_cards order fresh taken bank = record { order = order; fresh = fresh; taken = taken; bank = bank }

-- The burn of a deal: on a fresh shoe one card, or one per deck; later none, or one.
unfoldable pub deal_burns : Options → Cards → ℕ
deal_burns o c = cond c.fresh (cond (eqb o.first 2) o.decks 1) (cond (leb 1 o.later) 1 0)

-- The burn before the bank's second card, in every round: option 2.
unfoldable pub close_burns : Options → ℕ
close_burns o = cond (eqb o.later 2) 1 0

-- How many cards more the bank takes, while its total is 16 or less.
unfoldable pub bank_more : List ℕ → List ℕ → ℕ
bank_more cards [] = 0
bank_more cards (card ∷ rest) = cond (leb (total cards) 16) (suc (bank_more (cards ++ (card ∷ [])) rest)) 0

-- The cards that lie before the bank at close, behind its burn; its second card, which the box's bank has, and those it takes then.
unfoldable pub bank_taken : Options → Cards → ℕ
bank_taken o c =
    let rest = drop (c.taken + close_burns o) c.order in
    cond (is_box o) (bank_more c.bank rest) (suc (bank_more (c.bank ++ take 1 rest) (drop 1 rest)))

unfoldable pub bank_final : Options → Cards → List ℕ
bank_final o c = c.bank ++ take (bank_taken o c) (drop (c.taken + close_burns o) c.order)

-- How many cards a call takes, in a round in which `staked` seats have staked.
unfoldable pub call_takes : Options → ℕ → Cards → Entry → ℕ
call_takes o staked c e =
    cond (is_deal e) (deal_burns o c + 2 * staked + cond (is_box o) 2 1)
    (cond (is_draw e || is_double e) 1
    (cond (is_split e) 2
    (cond (is_close e) (close_burns o + bank_taken o c)
    0)))

-- The bank's cards after a call: deal gives it the one behind the burn and the first card of each staked seat, with the box the one behind the second cards too.
unfoldable pub bank_after : Options → ℕ → Cards → Entry → List ℕ
bank_after o staked c e =
    let behind = c.taken + deal_burns o c in
    cond (is_deal e) (get_or c.order (behind + staked) 0 ∷ cond (is_box o) (get_or c.order (behind + 2 * staked + 1) 0 ∷ []) [])
    (cond (is_end e) []
    c.bank)

-- What one call makes of the cards.
unfoldable pub cards_after : Options → ℕ → Cards → Entry → Cards
cards_after o staked c e =
    cond (is_load e) (make_cards e.order (cond (is_machine o) c.fresh true) 0 c.bank)
    (make_cards c.order (cond (is_deal e) false c.fresh) (c.taken + call_takes o staked c e) (bank_after o staked c e))

-- The cards after a list of accepted calls; the opening's order counts as a load.
abbrev pub cards_of_history : Options → List ℕ → List Entry → Cards
cards_of_history o opening [] = make_cards opening true 0 []
cards_of_history o opening (e ∷ es) = cards_after o (staked_below es o.seats) (cards_of_history o opening es) e

-- The cards drawn since the last load, in their order.
abbrev pub drawn_cards : Options → List ℕ → List Entry → List ℕ
drawn_cards o opening es = take (cards_of_history o opening es).taken (cards_of_history o opening es).order
