-- Document 01, "Who can bring about which number", 1: a broken table. docs/BROKEN.md says it in words. A table is broken unless it is sound, and each part
-- of sound is one test. Every table value has an answer.
use Rattle.std.specs.Prelude.{Bool, cond, not, ◌&&◌, ◌||◌, ℕ, ◌+◌, ◌*◌, ltb, leb, eqb, length, get_or, take}
use Rattle.lists.specs.Sum.{count_of}
use Rattle.lists.specs.Tests.{all_of}
use Rattle.lists.specs.Below.{all_below}
use Rattle.cards.specs.Card.{is_ace}
use Rattle.cards.specs.Hand.{cards_of}
use Rattle.cards.specs.Length.{could_be_played}
use Rattle.cards.specs.Total.{total}
use Rattle.options.specs.declared.Options.{Options}
use Rattle.options.specs.Device.{bank_at_deal}
use Rattle.options.specs.Ranges.{in_range}
use Rattle.options.specs.Permitted.{stake_permitted, insurance_permitted, most_side}
use Rattle.rules.specs.declared.seat_hand.SeatHand.{SeatHand}
use Rattle.rules.specs.SeatHand.{Played, played_of, dealt, split, split_aces, by_stand, by_double, by_surrender, by_even, by_five, has_two_cards}
use Rattle.rules.specs.OpenCalls.{even_open, five_open}
use Rattle.table.specs.declared.Seat.{Seat}
use Rattle.table.specs.declared.Shoe.{Shoe}
use Rattle.table.specs.declared.Table.{Table}
use Rattle.table.specs.Guest.{is_nobody}
use Rattle.table.specs.Seat.{any_guest, each_guest, purse, stake, insurance, sides, is_staked, laid, prizes}
use Rattle.table.specs.Shoe.{valid_order, is_fresh}
use Rattle.table.specs.Table.{seat_at, is_dealt, up, some_staked, table_order, table_drawn}
use Rattle.table.specs.Money.{most_money, all_money, all_prizes, all_cover}
use Rattle.table.specs.Faces.{out_cards}

-- Where a hand comes from fits what lies there: a seat's only hand was dealt, any other comes from a split, of aces where its first card is one.
unfoldable pub sound_origin : ℕ → Played → Bool
sound_origin many h = eqb h.origin (cond (eqb many 1) dealt (cond (is_ace (get_or h.cards 0 0)) split_aces split))

-- A doubled hand has three cards, is not from split aces, and its first two permitted the double (article 17).
unfoldable pub sound_double : Options → Played → Bool
sound_double o h =
    let two = total (take 2 h.cards) in
    eqb (length h.cards) 3 && not (eqb h.origin split_aces) && ltb two 21 && (eqb o.double 1 || eqb two 11)

-- A surrendered hand is its seat's only one, of two cards, against no ace (article 18).
unfoldable pub sound_surrender : ℕ → ℕ → Played → Bool
sound_surrender up many h = eqb many 1 && has_two_cards h && not (is_ace up)

-- How a hand ended fits what lies there: even and five only where they are open.
unfoldable pub sound_ending : Options → ℕ → ℕ → Played → Bool
sound_ending o up many h =
    cond (eqb h.ended by_double) (sound_double o h)
    (cond (eqb h.ended by_surrender) (sound_surrender up many h)
    (cond (eqb h.ended by_even) (even_open up h)
    (cond (eqb h.ended by_five) (five_open o up h)
    (leb h.ended by_stand))))

-- A hand in use, in a seat of `many` hands against the up card `up`: 2 to 20 cards that could have been played, codes that fit them.
unfoldable pub sound_hand : Options → ℕ → ℕ → SeatHand → Bool
sound_hand o up many h =
    leb 2 h.hand.count && leb h.hand.count 20 && could_be_played (cards_of h.hand) && sound_origin many (played_of h) && sound_ending o up many (played_of h)

-- A guest of a seat beyond the option holds nothing.
unfoldable pub sound_number : Options → ℕ → Seat → Bool
sound_number o i s = ltb i o.seats || (is_nobody s.money && eqb s.hands.many 0)

-- A stake is 0 or permitted; an insurance is 0, or permitted for the stake with an ace up in a dealt round.
unfoldable pub sound_stake : Options → Seat → Bool
sound_stake o s = eqb (stake s) 0 || stake_permitted o (stake s)

-- Here and below `in_round` says whether a round is dealt, and `up` is the up card.
unfoldable pub sound_insurance : Options → Bool → ℕ → Seat → Bool
sound_insurance o in_round up s = eqb (insurance s) 0 || (in_round && is_ace up && is_staked s && insurance_permitted o (stake s) (insurance s))

-- A side stake is 0, or lies beside a stake and is 1 to 100,000 (request 2.6).
unfoldable pub sound_sides : Seat → Bool
sound_sides s = all_below (λ k. eqb (get_or (sides s) k 0) 0 || (is_staked s && leb (get_or (sides s) k 0) most_side)) 4

-- A seat has a hand exactly if a round is dealt and it has a stake; it has no more hands than the option gives, each of them sound.
unfoldable pub sound_hands : Options → Bool → ℕ → Seat → Bool
sound_hands o in_round up s =
    eqb s.hands.many 0 && not (in_round && is_staked s)
    || ltb 0 s.hands.many && leb s.hands.many o.hands && in_round && is_staked s && all_of (sound_hand o up s.hands.many) (take s.hands.many s.hands.places)

-- A void can take a guest's prizes back: they are within the purse and what was laid.
unfoldable pub sound_prizes : Options → Seat → Bool
sound_prizes o s = leb (prizes o s) (purse s + laid s)

-- A guest of the seat of number i.
unfoldable pub sound_guest : Options → Bool → ℕ → ℕ → Seat → Bool
sound_guest o in_round up i s = sound_number o i s && sound_stake o s && sound_insurance o in_round up s && sound_sides s && sound_prizes o s

-- The seated guest stakes first (request 2.8).
unfoldable pub seated_first : Seat → Bool
seated_first s = is_staked s || not (any_guest is_staked s)

-- The seat of number i.
unfoldable pub sound_seat : Options → Bool → ℕ → ℕ → Seat → Bool
sound_seat o in_round up i s = each_guest (sound_guest o in_round up i) s && seated_first s && sound_hands o in_round up s

abbrev pub seat_sound : Table → ℕ → Bool
seat_sound t i = sound_seat t.options (is_dealt t) (up t) i (seat_at t i)

-- The order is valid, at most all of it is drawn, and there is room for every discard.
unfoldable pub sound_shoe : Table → Bool
sound_shoe t = valid_order t.options.decks (table_order t) && leb t.shoe.drawn (52 * t.options.decks) && leb t.shoe.discarded 416

-- Play has begun or not, and it has where a card is drawn (request 2.7).
unfoldable pub sound_begun : Shoe → Bool
sound_begun sh = leb sh.begun 1 && (is_fresh sh || eqb sh.begun 1)

-- The discards are the first drawn cards, in the order in which they were drawn.
unfoldable pub sound_discards : Table → Bool
sound_discards t = leb t.shoe.discarded t.shoe.drawn && all_below (λ k. eqb (get_or t.shoe.discards k 0) (get_or t.shoe.order k 0)) t.shoe.discarded

-- Of every byte value, hands, bank and discards hold as many cards as the drawn part of the order, and as many in all.
unfoldable pub sound_faces : Table → Bool
sound_faces t = all_below (λ b. eqb (count_of b (out_cards t)) (count_of b (table_drawn t))) 256 && eqb (length (out_cards t)) t.shoe.drawn

-- The bank has no card, or as many as a deal of the device gives it (request 2.7); in a dealt round some seat has a stake.
unfoldable pub sound_bank : Table → Bool
sound_bank t = eqb t.bank.count 0 || (eqb t.bank.count (bank_at_deal t.options) && some_staked t)

-- All money is within 10^15; in a dealt round the tray with the prizes paid covers every stake and side stake.
unfoldable pub sound_money : Table → Bool
sound_money t = leb (all_money t) most_money && (not (is_dealt t) || leb (all_cover t) (t.tray + all_prizes t))

unfoldable pub sound : Table → Bool
sound t =
    in_range t.options && sound_begun t.shoe && sound_shoe t && sound_discards t && sound_faces t && all_below (seat_sound t) 9 && sound_bank t && sound_money t

abbrev pub broken : Table → Bool
broken t = not (sound t)
