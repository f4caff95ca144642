-- Document 01, "The seventeen calls", load, and number 3: the shoe, its loaded order, what of it is drawn and what is left, and the discards; request 2.7: which
-- deal takes the first burn.
use Rattle.std.specs.Prelude.{Bool, cond, ◌&&◌, List, ◌++◌, ℕ, ◌+◌, ◌-◌, ◌*◌, ltb, eqb, length, take, drop, replicate}
use Rattle.std.proofs.lemmas.List.Edits.{sets}
use Rattle.lists.specs.Sum.{count_of}
use Rattle.lists.specs.Tests.{all_of}
use Rattle.lists.specs.Below.{all_below}
use Rattle.options.specs.declared.Options.{Options}
use Rattle.options.specs.Device.{is_machine}
use Rattle.table.specs.declared.Shoe.{Shoe}

abbrev pub make_shoe : List ℕ → ℕ → List ℕ → ℕ → ℕ → Shoe
make_shoe order drawn discards discarded begun = record { order = order; drawn = drawn; discards = discards; discarded = discarded; begun = begun }

-- A load: an order of 52 × decks cards, each face as often as there are decks (number 3: wrong length, card or count).
unfoldable pub valid_order : ℕ → List ℕ → Bool
valid_order decks order =
    eqb (length order) (52 * decks) && all_of (λ card. ltb card 52) order && all_below (λ face. eqb (count_of face order) decks) 52

-- The shoe that a load makes: nothing drawn, no discards. Behind its cards the arrays hold zeros. Whether play has begun stays.
abbrev pub new_shoe : ℕ → List ℕ → Shoe
new_shoe begun order = make_shoe (order ++ replicate (416 - length order) 0) 0 (replicate 416 0) 0 begun

-- The loaded order, of 52 × decks cards.
abbrev pub order_of : ℕ → Shoe → List ℕ
order_of decks sh = take (52 * decks) sh.order

-- Its cards that are drawn, and those that are left.
abbrev pub drawn_of : ℕ → Shoe → List ℕ
drawn_of decks sh = take sh.drawn (order_of decks sh)

abbrev pub left_of : ℕ → Shoe → List ℕ
left_of decks sh = drop sh.drawn (order_of decks sh)

-- How many are left.
abbrev pub left : ℕ → Shoe → ℕ
left decks sh = 52 * decks - sh.drawn

-- The discards.
abbrev pub discards_of : Shoe → List ℕ
discards_of sh = take sh.discarded sh.discards

-- A shoe is fresh while nothing of it is drawn: the first burn is at least one card.
abbrev pub is_fresh : Shoe → Bool
is_fresh sh = eqb sh.drawn 0

-- The next deal takes the first burn: the first since the opening with the machine, else one from a fresh shoe (request 2.7).
unfoldable pub burns_first : Options → Shoe → Bool
burns_first o sh = cond (is_machine o) (eqb sh.begun 0) (is_fresh sh)

-- So many cards are drawn and go elsewhere.
abbrev pub with_drawn : Shoe → ℕ → Shoe
with_drawn sh n = make_shoe sh.order (sh.drawn + n) sh.discards sh.discarded sh.begun

-- All drawn cards are discards, in the order in which they were drawn: the end of a round.
abbrev pub discard_drawn : Shoe → Shoe
discard_drawn sh = make_shoe sh.order sh.drawn (sets sh.discards 0 (take sh.drawn sh.order)) sh.drawn sh.begun

-- Cards become discards, behind the others in their order.
abbrev pub discard : Shoe → List ℕ → Shoe
discard sh cards = make_shoe sh.order sh.drawn (sets sh.discards sh.discarded cards) (sh.discarded + length cards) sh.begun

-- A deal was accepted since the opening.
abbrev pub with_begun : Shoe → Shoe
with_begun sh = make_shoe sh.order sh.drawn sh.discards sh.discarded 1
