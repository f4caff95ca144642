-- What a table that is not broken gives, as facts: the tests of Broken.antt as orders and equations of numbers.
use Rattle.std.specs.Prelude.{◌≡◌, Bool, true, ℕ, ◌+◌, ◌*◌, ◌≤◌, ◌<◌, length, get_or}
use Rattle.lists.specs.Sum.{count_of}
use Rattle.cards.specs.Card.{is_ace}
use Rattle.cards.specs.Hand.{cards_of}
use Rattle.cards.specs.Length.{could_be_played}
use Rattle.options.specs.declared.Options.{Options}
use Rattle.options.specs.Device.{bank_at_deal}
use Rattle.options.specs.Ranges.{in_range}
use Rattle.rules.specs.declared.seat_hand.SeatHand.{SeatHand}
use Rattle.table.specs.declared.Seat.{Seat}
use Rattle.table.specs.declared.Table.{Table}
use Rattle.table.specs.Seat.{missing_place, guest_at, purse, stake, insurance, sides, laid, prizes}
use Rattle.table.specs.Shoe.{valid_order}
use Rattle.rules.specs.SeatHand.{played_of}
use Rattle.table.specs.Broken.{sound_origin, sound_ending}
use Rattle.table.specs.Table.{seat_at, is_dealt, up, some_staked, table_order, table_drawn}
use Rattle.table.specs.Money.{most_money, all_money, all_prizes, all_cover}
use Rattle.table.specs.Faces.{out_cards}
use Rattle.options.specs.Permitted.{stake_permitted, insurance_permitted, most_side}

-- A hand in use.
pub record SoundHand (o : Options) (up many : ℕ) (h : SeatHand) : Type 0 where
  pub two_cards_lem : 2 ≤ h.hand.count
  pub twenty_cards : h.hand.count ≤ 20
  pub played : could_be_played (cards_of h.hand) ≡ true
  pub origin : sound_origin many (played_of h) ≡ true
  pub ended : sound_ending o up many (played_of h) ≡ true

-- An insurance that lies there.
pub record Insured (o : Options) (in_round : Bool) (up : ℕ) (s : Seat) : Type 0 where
  pub in_round_lem : in_round ≡ true
  pub ace_up : is_ace up ≡ true
  pub staked : 0 < stake s
  pub permitted : insurance_permitted o (stake s) (insurance s) ≡ true

-- A seat with hands.
pub record Playing (o : Options) (in_round : Bool) (up : ℕ) (s : Seat) : Type 0 where
  pub in_round_lem : in_round ≡ true
  pub staked : 0 < stake s
  pub within : s.hands.many ≤ o.hands
  pub each : (p : ℕ) → p < s.hands.many → p < length s.hands.places → SoundHand o up s.hands.many (get_or s.hands.places p missing_place)

-- A guest with nothing on the layout, and one who has no purse either, at a seat without hands.
pub record NoBets (s : Seat) : Type 0 where
  pub no_stake_lem : stake s ≡ 0
  pub no_insurance : insurance s ≡ 0
  pub no_sides : (k : ℕ) → k < 4 → get_or (sides s) k 0 ≡ 0

pub record HoldsNothing (s : Seat) : Type 0 where
  pub no_purse : purse s ≡ 0
  pub no_bets : NoBets s
  pub no_hands : s.hands.many ≡ 0

-- A guest of the seat of number i; `in_round` is whether a round is dealt, `up` the up card.
pub record SoundGuest (o : Options) (in_round : Bool) (up i : ℕ) (s : Seat) : Type 0 where
  pub beyond : o.seats ≤ i → HoldsNothing s
  pub stake_fits : 0 < stake s → stake_permitted o (stake s) ≡ true
  pub insured : 0 < insurance s → Insured o in_round up s
  pub sides_fit : (k : ℕ) → k < 4 → 0 < get_or (sides s) k 0 → (0 < stake s) × (get_or (sides s) k 0 ≤ most_side)
  pub prizes_back : prizes o s ≤ purse s + laid s

-- The seat of number i.
pub record SoundSeat (o : Options) (in_round : Bool) (up i : ℕ) (s : Seat) : Type 0 where
  pub guests : (p : ℕ) → p < 3 → SoundGuest o in_round up i (guest_at s p)
  pub seated_first_lem : (p : ℕ) → p < 3 → stake s ≡ 0 → stake (guest_at s p) ≡ 0
  pub waiting : s.hands.many ≡ 0 → in_round ≡ true → stake s ≡ 0
  pub playing : 0 < s.hands.many → Playing o in_round up s

pub record Sound (t : Table) : Type 0 where
  pub options : in_range t.options ≡ true
  pub begun : t.shoe.begun ≤ 1
  pub begun_drawn : 0 < t.shoe.drawn → t.shoe.begun ≡ 1
  pub valid : valid_order t.options.decks (table_order t) ≡ true
  pub drawn : t.shoe.drawn ≤ 52 * t.options.decks
  pub discarded : t.shoe.discarded ≤ 416
  pub discarded_drawn : t.shoe.discarded ≤ t.shoe.drawn
  pub discards : (k : ℕ) → k < t.shoe.discarded → get_or t.shoe.discards k 0 ≡ get_or t.shoe.order k 0
  pub faces : (b : ℕ) → b < 256 → count_of b (out_cards t) ≡ count_of b (table_drawn t)
  pub number : length (out_cards t) ≡ t.shoe.drawn
  pub seats : (i : ℕ) → i < 9 → SoundSeat t.options (is_dealt t) (up t) i (seat_at t i)
  pub bank : 0 < t.bank.count → t.bank.count ≡ bank_at_deal t.options
  pub round : is_dealt t ≡ true → some_staked t ≡ true
  pub money : all_money t ≤ most_money
  pub cover : is_dealt t ≡ true → all_cover t ≤ t.tray + all_prizes t
