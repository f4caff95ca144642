-- Document 01, "The seventeen calls", deal: burns into the discards, then from the lowest seat one card to each staked seat, one to the bank (the up
-- card), a second to each seat (articles 4 and 5), and with the box one more to the bank, face down (request 2.7). Here are its numbers and the table after it.
use Rattle.std.specs.Prelude.{Bool, cond, not, ◌&&◌, List, [], ◌∷◌, ℕ, ◌+◌, ◌*◌, leb, ltb, get_or, take}
use Rattle.lists.specs.Sum.{sum_of}
use Rattle.call.specs.Refusal.{Condition}
use Rattle.cards.specs.declared.hand.Hand.{Hand}
use Rattle.cards.specs.Hand.{empty_hand, with_card}
use Rattle.options.specs.declared.Options.{Options}
use Rattle.options.specs.Device.{is_shoe, is_box, bank_at_deal}
use Rattle.table.specs.declared.Seat.{Seat}
use Rattle.table.specs.declared.Shoe.{Shoe}
use Rattle.table.specs.declared.Table.{Table}
use Rattle.table.specs.Seat.{is_staked}
use Rattle.table.specs.Shoe.{is_fresh, with_drawn, discard, with_begun}
use Rattle.table.specs.Table.{make_table, some_staked, table_shoe, cards_left}
use Rattle.table.specs.Money.{all_cover}
use Rattle.table.specs.Broken.{broken}
use Rattle.answer.specs.Conditions.{between_rounds}
use Rattle.deal_spec.specs.Burn.{burn_at_deal}
use Rattle.deal_spec.specs.Pass.{first_card, second_card, pass}

-- How many seats have a stake.
abbrev pub staked_seats : List Seat → ℕ
staked_seats seats = sum_of (λ s. cond (is_staked s) 1 0) seats

-- How many cards a deal burns and takes.
abbrev pub burnt : Table → ℕ
burnt t = burn_at_deal t.options t.shoe

unfoldable pub deal_takes : Table → ℕ
deal_takes t = burnt t + 2 * staked_seats t.seats + bank_at_deal t.options

-- 17: box and machine need a load after a round that was dealt, however many cards are left (request 2.7). No round is dealt here, so something is drawn only if one was.
unfoldable pub load_due : Options → Shoe → Bool
load_due o sh = not (is_shoe o) && not (is_fresh sh)

unfoldable pub deal_conditions : Table → List Condition
deal_conditions t =
    (1, broken t)
    ∷ between_rounds t
    ∷ (6, not (some_staked t))
    ∷ (16, ltb t.tray (all_cover t))
    ∷ (17, load_due t.options t.shoe)
    ∷ (17, leb (cards_left t) t.options.cut)
    ∷ (17, ltb (cards_left t) (deal_takes t))
    ∷ []

-- The seats after both passes: the bank's card lies between them.
unfoldable pub dealt_seats : Table → List Seat
dealt_seats t =
    pass second_card t.shoe.order (t.shoe.drawn + burnt t + staked_seats t.seats + 1)
    (pass first_card t.shoe.order (t.shoe.drawn + burnt t) t.seats)

-- The up card: the one behind the first pass.
unfoldable pub up_card : Table → ℕ
up_card t = get_or t.shoe.order (t.shoe.drawn + burnt t + staked_seats t.seats) 0

-- The hidden card: the one behind the second pass.
unfoldable pub hidden_card : Table → ℕ
hidden_card t = get_or t.shoe.order (t.shoe.drawn + burnt t + 2 * staked_seats t.seats + 1) 0

-- The bank's cards: the up card, and with the box the hidden one.
unfoldable pub dealt_bank : Options → ℕ → ℕ → Hand
dealt_bank o up hidden = cond (is_box o) (with_card (with_card empty_hand up) hidden) (with_card empty_hand up)

unfoldable pub deal_effect : Table → Table
deal_effect t =
    make_table t.options t.tray (dealt_seats t) (dealt_bank t.options (up_card t) (hidden_card t))
    (with_begun (with_drawn (discard t.shoe (take (burnt t) (table_shoe t))) (deal_takes t)))
