-- A table is sound where the facts of `Sound` hold, and only there. The arrays' lengths tie a count to what it counts.
use mathlib.Core.Path.{◌≡◌, refl, sym, ◌∙◌, ap, subst}
use mathlib.Core.Bool.{Bool, true, false, cond, not, ◌&&◌, ◌||◌, and-eq-true_iff, or-true, or-false}
use mathlib.Core.List.{List, [], ◌∷◌, ◌++◌}
use Prim.Native.Nat.{ℕ, ◌+◌, ◌*◌, ◌≤◌, ◌<◌}
use native.Mathlib.Decide.{dec_le}
use native.Mathlib.Omega.{arith}
use lib.Dec.{ltb, leb, eqb}
use lib.ListN.{length, take, get_or, length-take, length-append, length-map, length-drop}
use lib.Seq.{get_or-take}
use borrow.Author.Tests.{ltb-true, ltb-false, leb-true, leb-false, eqb-true, lt-ltb, le-ltb, le-leb, eq-eqb, ne_eqb, not-true, not-false}
use Rattle.lists.specs.Sum.{count_of, sum_of}
use Rattle.lists.specs.Tests.{all_of}
use Rattle.lists.specs.Below.{all_below}
use Rattle.lists.proofs.Sums.{sum-none}
use Rattle.lists.proofs.Tests.{and_at, or_other, or_unless, test_some, some_test, test_where, where_test, all-at, at_all}
use Rattle.lists.proofs.Below.{all_below_lem, below_all}
use Rattle.cards.specs.Card.{is_ace}
use Rattle.cards.specs.Hand.{cards_of}
use Rattle.cards.specs.Length.{could_be_played}
use Rattle.options.specs.declared.Options.{Options}
use Rattle.options.specs.Device.{bank_at_deal}
use Rattle.options.specs.Ranges.{in_range}
use Rattle.options.specs.Aids.Facts.{InRange}
use Rattle.options.proofs.Facts.{in_range_facts}
use Rattle.rules.specs.declared.seat_hand.SeatHand.{SeatHand}
use Rattle.rules.specs.SeatHand.{played_of}
use Rattle.rules.proofs.seat_hand.Places.{many_hands}
use Rattle.payment.specs.Wager.{wager}
use Rattle.payment.specs.Prize.{prize}
use Rattle.payment.proofs.Bounds.{wager_bounds, prize_most}
use Rattle.payment.specs.Bets.{all_sides}
use Rattle.table.specs.declared.Money.{Money}
use Rattle.table.specs.declared.Seat.{Seat}
use Rattle.table.specs.declared.Shoe.{Shoe}
use Rattle.table.specs.declared.Table.{Table}
use Rattle.table.specs.Guest.{missing_money, is_nobody, nobody_in}
use Rattle.table.specs.Seat.{make_seat, missing_place, guest_at, any_guest, each_guest, purse, stake, insurance, sides, is_staked, hands, laid, prizes}
use Rattle.table.specs.Shoe.{valid_order}
use Rattle.table.specs.Table.{seat_at, is_dealt, up, some_staked, table_order, table_drawn, table_discards, hand_cards, bank_cards, table_shoe, cards_left}
use Rattle.table.specs.Money.{most_money, all_money, all_prizes, all_cover}
use Rattle.table.specs.Faces.{out_cards}
use Rattle.options.specs.Permitted.{insurance_permitted, most_side}
use Rattle.table.specs.Broken.{broken, sound, sound_shoe, sound_discards, sound_faces, sound_begun, sound_bank, sound_money, seat_sound, sound_seat, sound_guest, seated_first, sound_number, sound_stake, sound_insurance, sound_sides, sound_hands, sound_prizes, sound_hand, sound_origin, sound_ending}
use Rattle.table.proofs.Guests.{each_guest_lem, guest-each, no_guest, guest-none}
use Rattle.table.specs.Aids.Sound.{Sound, SoundSeat, SoundGuest, SoundHand, Insured, Playing, NoBets, HoldsNothing}

-- A hand.
hand_facts : (o : Options) (up many : ℕ) (h : SeatHand) → sound_hand o up many h ≡ true → SoundHand o up many h
unfolding sound_hand
hand_facts o up many h e =
    let n = h.hand.count in
    let tests = leb 2 n ∷ leb n 20 ∷ could_be_played (cards_of h.hand) ∷ sound_origin many (played_of h) ∷ sound_ending o up many (played_of h) ∷ [] in
    let test = and_at tests e in
    record {
      two_cards_lem = leb-true _ _ (test 0);
      twenty_cards = leb-true _ _ (test 1);
      played = test 2;
      origin = test 3;
      ended = test 4;
    }

facts_hand : (o : Options) (up many : ℕ) (h : SeatHand) → SoundHand o up many h → sound_hand o up many h ≡ true
unfolding sound_hand
facts_hand o up many h f = simp (le-leb _ _ f.two_cards_lem, le-leb _ _ f.twenty_cards, f.played, f.origin, f.ended)

-- A guest without money, and a seat beyond the option.
pub nothing_facts : (s : Seat) → is_nobody s.money ≡ true → (purse s ≡ 0) × NoBets s
nothing_facts s e =
    let test = and_at (eqb (purse s) 0 ∷ eqb (stake s) 0 ∷ eqb (insurance s) 0 ∷ all_below (λ k. eqb (get_or (sides s) k 0) 0) 4 ∷ []) e in (
      eqb-true _ _ (test 0),
      record { no_stake_lem = eqb-true _ _ (test 1); no_insurance = eqb-true _ _ (test 2); no_sides = λ k h. eqb-true _ _ (all_below_lem _ 4 k (test 3) h) },
    )

-- nobody beside the seated guest: neither of the two others
pub nobody_beside : (s : Seat) → nobody_in s.others ≡ true
    → (is_nobody (guest_at s 1).money ≡ true) × (is_nobody (guest_at s 2).money ≡ true)
unfolding guest_at
nobody_beside s e = (and-eq-true_iff (is_nobody (get_or s.others 0 missing_money)) (is_nobody (get_or s.others 1 missing_money))).0 e

number_facts : (o : Options) (i : ℕ) (s : Seat) → sound_number o i s ≡ true → o.seats ≤ i → HoldsNothing s
unfolding sound_number
number_facts o i s e beyond =
    let (money, hands) = (and-eq-true_iff _ (eqb s.hands.many 0)).0 (or_other (ltb i o.seats) _ e (le-ltb _ _ beyond)) in
    let (purse, bets) = nothing_facts s money in
    record { no_purse = purse; no_bets = bets; no_hands = eqb-true _ _ hands }

nothing_test : (s : Seat) → HoldsNothing s → is_nobody s.money && eqb s.hands.many 0 ≡ true
nothing_test s f =
    let none = f.no_bets in
    simp (f.no_purse, none.no_stake_lem, none.no_insurance, below_all (λ k. eqb (get_or (sides s) k 0) 0) 4 (λ k h. eq-eqb _ _ (none.no_sides k h)), f.no_hands)

facts_number : (o : Options) (i : ℕ) (s : Seat) → (o.seats ≤ i → HoldsNothing s) → sound_number o i s ≡ true
unfolding sound_number
facts_number o i s f = or_unless (ltb i o.seats) _ (λ beyond. nothing_test s (f (ltb-false _ _ beyond)))

-- An insurance.
insurance_facts : (o : Options) (in_round : Bool) (up : ℕ) (s : Seat) → sound_insurance o in_round up s ≡ true → 0 < insurance s → Insured o in_round up s
unfolding sound_insurance
insurance_facts o in_round up s e some =
    let tests = in_round ∷ is_ace up ∷ is_staked s ∷ insurance_permitted o (stake s) (insurance s) ∷ [] in
    let test = and_at tests (test_some (insurance s) _ e some) in
    record { in_round_lem = test 0; ace_up = test 1; staked = ltb-true _ _ (test 2); permitted = test 3 }

insured_test : (o : Options) (in_round : Bool) (up : ℕ) (s : Seat) → Insured o in_round up s → in_round && is_ace up && is_staked s && insurance_permitted o (stake s) (insurance s) ≡ true
insured_test o in_round up s f = simp (f.in_round_lem, f.ace_up, lt-ltb _ _ f.staked, f.permitted)

facts_insurance : (o : Options) (in_round : Bool) (up : ℕ) (s : Seat) → (0 < insurance s → Insured o in_round up s) → sound_insurance o in_round up s ≡ true
unfolding sound_insurance
facts_insurance o in_round up s f = some_test (insurance s) _ (λ some. insured_test o in_round up s (f some))

-- The side stakes.
sides_facts : (s : Seat) → sound_sides s ≡ true → (k : ℕ) → k < 4 → 0 < get_or (sides s) k 0 → (0 < stake s) × (get_or (sides s) k 0 ≤ most_side)
unfolding sound_sides
sides_facts s e k h some =
    let test = and_at (is_staked s ∷ leb (get_or (sides s) k 0) most_side ∷ []) (test_some (get_or (sides s) k 0) _ (all_below_lem _ 4 k e h) some) in
    (ltb-true _ _ (test 0), leb-true _ _ (test 1))

facts_sides : (s : Seat) → ((k : ℕ) → k < 4 → 0 < get_or (sides s) k 0 → (0 < stake s) × (get_or (sides s) k 0 ≤ most_side)) → sound_sides s ≡ true
unfolding sound_sides
facts_sides s f =
    below_all (λ k. eqb (get_or (sides s) k 0) 0 || (is_staked s && leb (get_or (sides s) k 0) most_side)) 4 (λ k h.
    some_test (get_or (sides s) k 0) _ (λ some. simp (lt-ltb _ _ (f k h some).0, le-leb _ _ (f k h some).1)))

-- The hands of a seat.
waiting_facts : (o : Options) (in_round : Bool) (up : ℕ) (s : Seat) → sound_hands o in_round up s ≡ true → s.hands.many ≡ 0 → in_round ≡ true → stake s ≡ 0
unfolding sound_hands
waiting_facts o in_round up s e none round =
    let idle : not (ltb 0 (stake s)) ≡ true = simp (none, round, or-false) at e in
    omega (arith, ltb-false 0 (stake s) (not-true _ idle))

playing_facts : (o : Options) (in_round : Bool) (up : ℕ) (s : Seat) → sound_hands o in_round up s ≡ true → 0 < s.hands.many → Playing o in_round up s
unfolding sound_hands
playing_facts o in_round up s e some =
    let n = s.hands.many in
    let tests = ltb 0 n ∷ leb n o.hands ∷ in_round ∷ is_staked s ∷ all_of (sound_hand o up n) (take n s.hands.places) ∷ [] in
    let test = and_at tests (simp (ne_eqb n 0 (λ none. omega arith)) at e) in
    record {
      in_round_lem = test 2;
      staked = ltb-true _ _ (test 3);
      within = leb-true _ _ (test 1);
      each = λ p h l. hand_facts o up n _ (rw get_or-take at (all-at (sound_hand o up n) (take n s.hands.places) p missing_place (test 4) (omega (arith, length-take n s.hands.places))));
    }

each_test : (o : Options) (up : ℕ) (s : Seat)
    → ((p : ℕ) → p < s.hands.many → p < length s.hands.places → SoundHand o up s.hands.many (get_or s.hands.places p missing_place))
    → all_of (sound_hand o up s.hands.many) (take s.hands.many s.hands.places) ≡ true
each_test o up s f =
    at_all (sound_hand o up s.hands.many) (take s.hands.many s.hands.places) missing_place (λ p h.
    let used : p < s.hands.many = omega (arith, length-take s.hands.many s.hands.places) in
    rw get_or-take (facts_hand o up s.hands.many _ (f p used (omega (arith, length-take s.hands.many s.hands.places)))))

facts_hands : (o : Options) (in_round : Bool) (up : ℕ) (s : Seat)
    → (s.hands.many ≡ 0 → in_round ≡ true → stake s ≡ 0)
    → (0 < s.hands.many → Playing o in_round up s)
    → sound_hands o in_round up s ≡ true
unfolding sound_hands
facts_hands o in_round up s waits plays = go (dec_le s.hands.many 0)
  where
    idle : (b : Bool) → in_round ≡ b → s.hands.many ≡ 0 → in_round && is_staked s ≡ false
    idle true round none = rw round (le-ltb 0 (stake s) (omega (arith, waits none round)))
    idle false round none = rw round

    go : Dec (s.hands.many ≤ 0) → sound_hands o in_round up s ≡ true
    go (yes h) = let none : s.hands.many ≡ 0 = omega arith in simp (none, idle in_round refl none)
    go (no h) =
        let f = plays (omega arith) in
        simp (f.in_round_lem, lt-ltb _ _ f.staked, le-leb _ _ f.within, lt-ltb 0 s.hands.many (omega arith), each_test o up s f.each, or-true)

-- A guest.
guest_facts : (o : Options) (in_round : Bool) (up i : ℕ) (s : Seat) → sound_guest o in_round up i s ≡ true → SoundGuest o in_round up i s
unfolding sound_guest sound_stake sound_prizes
guest_facts o in_round up i s e =
    let tests = sound_number o i s ∷ sound_stake o s ∷ sound_insurance o in_round up s ∷ sound_sides s ∷ sound_prizes o s ∷ [] in
    let test = and_at tests e in
    record {
      beyond = number_facts o i s (test 0);
      stake_fits = test_some (stake s) _ (test 1);
      insured = insurance_facts o in_round up s (test 2);
      sides_fit = sides_facts s (test 3);
      prizes_back = leb-true _ _ (test 4);
    }

facts_guest : (o : Options) (in_round : Bool) (up i : ℕ) (s : Seat) → SoundGuest o in_round up i s → sound_guest o in_round up i s ≡ true
unfolding sound_guest sound_stake sound_prizes
facts_guest o in_round up i s f =
    simp (
      facts_number o i s f.beyond,
      some_test (stake s) _ f.stake_fits,
      facts_insurance o in_round up s f.insured,
      facts_sides s f.sides_fit,
      le-leb _ _ f.prizes_back,
    )

-- The seated guest stakes first.
seated_facts : (s : Seat) → seated_first s ≡ true → (p : ℕ) → p < 3 → stake s ≡ 0 → stake (guest_at s p) ≡ 0
unfolding seated_first
seated_facts s e p h none =
    let idle = not-true (any_guest is_staked s) (or_other (is_staked s) _ e (le-ltb 0 (stake s) (omega arith))) in
    omega (arith, ltb-false 0 (stake (guest_at s p)) (no_guest is_staked s idle p h))

facts_seated : (s : Seat) → ((p : ℕ) → p < 3 → stake s ≡ 0 → stake (guest_at s p) ≡ 0) → seated_first s ≡ true
unfolding seated_first
facts_seated s f =
    or_unless (is_staked s) _ (λ idle.
    ap not (guest-none is_staked s (λ p h. le-ltb 0 (stake (guest_at s p)) (omega (arith, f p h (omega (arith, ltb-false 0 (stake s) idle)))))))

-- A seat.
pub seat_facts : (o : Options) (in_round : Bool) (up i : ℕ) (s : Seat) → sound_seat o in_round up i s ≡ true → SoundSeat o in_round up i s
unfolding sound_seat
seat_facts o in_round up i s e =
    let test = and_at (each_guest (sound_guest o in_round up i) s ∷ seated_first s ∷ sound_hands o in_round up s ∷ []) e in
    record {
      guests = λ p h. guest_facts o in_round up i (guest_at s p) (each_guest_lem (sound_guest o in_round up i) s (test 0) p h);
      seated_first_lem = seated_facts s (test 1);
      waiting = waiting_facts o in_round up s (test 2);
      playing = playing_facts o in_round up s (test 2);
    }

facts_seat : (o : Options) (in_round : Bool) (up i : ℕ) (s : Seat) → SoundSeat o in_round up i s → sound_seat o in_round up i s ≡ true
unfolding sound_seat
facts_seat o in_round up i s f =
    simp (
      guest-each (sound_guest o in_round up i) s (λ p h. facts_guest o in_round up i (guest_at s p) (f.guests p h)),
      facts_seated s f.seated_first_lem,
      facts_hands o in_round up s f.waiting f.playing,
    )

-- The bank.
bank_facts : (t : Table) → sound_bank t ≡ true → (0 < t.bank.count → t.bank.count ≡ bank_at_deal t.options) × (is_dealt t ≡ true → some_staked t ≡ true)
unfolding sound_bank
bank_facts t e = go (dec_le t.bank.count 0)
  where
    go : Dec (t.bank.count ≤ 0) → (0 < t.bank.count → t.bank.count ≡ bank_at_deal t.options) × (is_dealt t ≡ true → some_staked t ≡ true)
    go (yes h) = (λ some. absurd (omega arith), λ round. absurd (omega (arith, ltb-true 0 (length (bank_cards t)) round, length-take t.bank.count t.bank.cards)))
    go (no h) =
        let test = and_at (eqb t.bank.count (bank_at_deal t.options) ∷ some_staked t ∷ []) (test_some t.bank.count _ e (omega arith)) in
        (λ some. eqb-true t.bank.count (bank_at_deal t.options) (test 0), λ round. test 1)

facts_bank : (t : Table) → length t.bank.cards ≡ 20 → (0 < t.bank.count → t.bank.count ≡ bank_at_deal t.options) → (is_dealt t ≡ true → some_staked t ≡ true) → sound_bank t ≡ true
unfolding sound_bank
facts_bank t twenty many f =
    some_test t.bank.count _ (λ some.
    let round : is_dealt t ≡ true = lt-ltb 0 (length (bank_cards t)) (omega (arith, length-take t.bank.count t.bank.cards)) in
    simp (eq-eqb t.bank.count (bank_at_deal t.options) (many some), f round))

-- Whether play has begun.
begun_facts : (sh : Shoe) → sound_begun sh ≡ true → (sh.begun ≤ 1) × (0 < sh.drawn → sh.begun ≡ 1)
unfolding sound_begun
begun_facts sh e =
    let test = and_at (leb sh.begun 1 ∷ (eqb sh.drawn 0 || eqb sh.begun 1) ∷ []) e in
    (leb-true _ _ (test 0), λ some. eqb-true _ _ (test_some sh.drawn _ (test 1) some))

facts_begun : (sh : Shoe) → sh.begun ≤ 1 → (0 < sh.drawn → sh.begun ≡ 1) → sound_begun sh ≡ true
unfolding sound_begun
facts_begun sh one drawn = simp (le-leb _ _ one, some_test sh.drawn _ (λ some. eq-eqb _ _ (drawn some)))

pub sound_facts : (t : Table) → sound t ≡ true → Sound t
unfolding sound sound_shoe sound_discards sound_faces sound_money
sound_facts t e =
    let tests = in_range t.options ∷ sound_begun t.shoe ∷ sound_shoe t ∷ sound_discards t ∷ sound_faces t ∷ all_below (seat_sound t) 9 ∷ sound_bank t ∷ sound_money t ∷ [] in
    let test = and_at tests e in
    let shoe = and_at (valid_order t.options.decks (table_order t) ∷ leb t.shoe.drawn (52 * t.options.decks) ∷ leb t.shoe.discarded 416 ∷ []) (test 2) in
    let discards = and_at (leb t.shoe.discarded t.shoe.drawn ∷ all_below (λ k. eqb (get_or t.shoe.discards k 0) (get_or t.shoe.order k 0)) t.shoe.discarded ∷ []) (test 3) in
    let faces = and_at (all_below (λ b. eqb (count_of b (out_cards t)) (count_of b (table_drawn t))) 256 ∷ eqb (length (out_cards t)) t.shoe.drawn ∷ []) (test 4) in
    let money = and_at (leb (all_money t) most_money ∷ (not (is_dealt t) || leb (all_cover t) (t.tray + all_prizes t)) ∷ []) (test 7) in
    record {
      options = test 0;
      begun = (begun_facts t.shoe (test 1)).0;
      begun_drawn = (begun_facts t.shoe (test 1)).1;
      valid = shoe 0;
      drawn = leb-true _ _ (shoe 1);
      discarded = leb-true _ _ (shoe 2);
      discarded_drawn = leb-true _ _ (discards 0);
      discards = λ k h. eqb-true _ _ (all_below_lem _ t.shoe.discarded k (discards 1) h);
      faces = λ b h. eqb-true _ _ (all_below_lem _ 256 b (faces 0) h);
      number = eqb-true _ _ (faces 1);
      seats = λ i h. seat_facts t.options (is_dealt t) (up t) i (seat_at t i) (all_below_lem (seat_sound t) 9 i (test 5) h);
      bank = (bank_facts t (test 6)).0;
      round = (bank_facts t (test 6)).1;
      money = leb-true _ _ (money 0);
      cover = λ round. leb-true _ _ (test_where (is_dealt t) _ (money 1) round);
    }

pub facts_sound : (t : Table) → length t.bank.cards ≡ 20 → Sound t → sound t ≡ true
unfolding sound sound_shoe sound_discards sound_faces sound_money
facts_sound t twenty f =
    simp (
      f.options,
      facts_begun t.shoe f.begun f.begun_drawn,
      f.valid,
      le-leb _ _ f.drawn,
      le-leb _ _ f.discarded,
      le-leb _ _ f.discarded_drawn,
      below_all (λ k. eqb (get_or t.shoe.discards k 0) (get_or t.shoe.order k 0)) t.shoe.discarded (λ k h. eq-eqb _ _ (f.discards k h)),
      below_all (λ b. eqb (count_of b (out_cards t)) (count_of b (table_drawn t))) 256 (λ b h. eq-eqb _ _ (f.faces b h)),
      eq-eqb _ _ f.number,
      below_all (seat_sound t) 9 (λ i h. facts_seat t.options (is_dealt t) (up t) i (seat_at t i) (f.seats i h)),
      facts_bank t twenty f.bank f.round,
      le-leb _ _ f.money,
      where_test (is_dealt t) _ (λ round. le-leb _ _ (f.cover round)),
    )

-- What the facts give.
pub sound_options : (t : Table) → Sound t → InRange t.options
sound_options t f = in_range_facts t.options f.options

-- what a table that is not broken gives; a seat of the option is one of the nine
pub unbroken : (t : Table) → broken t ≡ false → Sound t
unbroken t e = sound_facts t (not-false (sound t) e)

pub seat_of-nine : (t : Table) (j : ℕ) → broken t ≡ false → leb t.options.seats j ≡ false → j < 9
seat_of-nine t j e within = omega (arith, (sound_options t (unbroken t e)).seats_most, leb-false t.options.seats j within)

pub decks_416 : (t : Table) → Sound t → 52 * t.options.decks ≤ 416
decks_416 t f = omega (arith, (sound_options t f).decks_most)

-- an insurance is at most the stake
pub insurance_most : (o : Options) (S I : ℕ) → insurance_permitted o S I ≡ true → I ≤ S
unfolding insurance_permitted
insurance_most o S I e = go (eqb o.insurance 1) e
  where
    go : (half : Bool) → cond half (eqb (2 * I) S) (leb S (2 * I) && leb I S) ≡ true → I ≤ S
    go true e = omega (arith, eqb-true (2 * I) S e)
    go false e = leb-true I S (and_at (leb S (2 * I) ∷ leb I S ∷ []) e 1)

-- the cards drawn are those of hands and bank and the discards
pub room_discards : (t : Table) → length t.shoe.discards ≡ 416 → Sound t → length (hand_cards t ++ bank_cards t) + t.shoe.discarded ≡ t.shoe.drawn
room_discards t full f =
    omega (arith, length-append (hand_cards t ++ bank_cards t) (table_discards t), length-take t.shoe.discarded t.shoe.discards)

-- in a dealt round the up card is drawn
pub dealt-drawn : (t : Table) → Sound t → is_dealt t ≡ true → 0 < t.shoe.drawn
dealt-drawn t f round =
    omega (arith, length-append (hand_cards t ++ bank_cards t) (table_discards t), length-append (hand_cards t) (bank_cards t), ltb-true 0 (length (bank_cards t)) round)

-- a shoe of which k cards more are drawn: play had begun where that is any
pub still_begun : (t : Table) (sh : Shoe) (k : ℕ) → Sound t → sh.begun ≡ t.shoe.begun → sh.drawn ≡ t.shoe.drawn + k → (0 < k → 0 < t.shoe.drawn)
    → (sh.begun ≤ 1) × (0 < sh.drawn → sh.begun ≡ 1)
still_begun t sh k f same more before = (omega (arith, f.begun), λ some. same ∙ f.begun_drawn (go (dec_le k 0) some))
  where
    go : Dec (k ≤ 0) → 0 < sh.drawn → 0 < t.shoe.drawn
    go (yes none) some = omega arith
    go (no h) some = before (omega arith)

-- a seat has as many hands as its number of hands says: that is 0, or at most the option's
pub hands_many : (s : Seat) → length s.hands.places ≡ 4 → s.hands.many ≤ 4 → length (hands s) ≡ s.hands.many
hands_many s four few = omega (arith, many_hands s.hands four)

pub most_many : (o : Options) (in_round : Bool) (up i : ℕ) (s : Seat) → o.hands ≤ 4 → SoundSeat o in_round up i s → s.hands.many ≤ 4
most_many o in_round up i s most f = go (dec_le s.hands.many 0)
  where
    go : Dec (s.hands.many ≤ 0) → s.hands.many ≤ 4
    go (yes h) = omega arith
    go (no h) = omega (arith, (f.playing (omega arith)).within)

pub few_hands : (o : Options) (in_round : Bool) (up i : ℕ) (s : Seat) → o.hands ≤ 4 → SoundSeat o in_round up i s → length (hands s) ≤ 4
few_hands o in_round up i s most f = simp (length-map, length-take) (omega (arith, most_many o in_round up i s most f))

-- a guest without a stake has no side stake
pub no_sides : (o : Options) (in_round : Bool) (up i : ℕ) (s : Seat) → SoundGuest o in_round up i s → stake s ≡ 0 → (k : ℕ) → k < 4 → get_or (sides s) k 0 ≡ 0
no_sides o in_round up i s f none k h = go (dec_le (get_or (sides s) k 0) 0)
  where
    go : Dec (get_or (sides s) k 0 ≤ 0) → get_or (sides s) k 0 ≡ 0
    go (yes l) = omega arith
    go (no l) = absurd (omega (arith, (f.sides_fit k h (omega arith)).0))

-- a seat without hands: what it laid is its stake and its side stakes, and it has no prize
pub no_hands : (s : Seat) → s.hands.many ≡ 0 → hands s ≡ []
no_hands s none = rw none

pub laid-stake : (s : Seat) → s.hands.many ≡ 0 → laid s ≡ stake s + all_sides (sides s)
unfolding laid
laid-stake s none = rw none

pub no_prizes : (o : Options) (s : Seat) → s.hands.many ≡ 0 → prizes o s ≡ 0
unfolding prizes sum_of
no_prizes o s none = rw none

-- the cards left are as many as the count says
pub cards_left_lem : (t : Table) → length t.shoe.order ≡ 416 → Sound t → length (table_shoe t) ≡ cards_left t
cards_left_lem t full sound =
    length-drop t.shoe.drawn (table_order t) ∙ omega (arith, length-take (52 * t.options.decks) t.shoe.order, decks_416 t sound)

-- a guest is sound where one with the same money and the same hands is
sound-beside : (o : Options) (in_round : Bool) (up i : ℕ) (s : Seat) (others : List Money) (first : List ℕ) → SoundGuest o in_round up i s → SoundGuest o in_round up i (make_seat s.money others s.hands first)
unfolding laid prizes
sound-beside o in_round up i s others first f =
    record {
      beyond = λ h. nothing (f.beyond h);
      stake_fits = f.stake_fits;
      insured = λ some. insured (f.insured some);
      sides_fit = f.sides_fit;
      prizes_back = f.prizes_back;
    }
  where
    r : Seat
    r = make_seat s.money others s.hands first

    nothing : HoldsNothing s → HoldsNothing r
    nothing n =
        let none = n.no_bets in
        record { no_purse = n.no_purse; no_bets = record { no_stake_lem = none.no_stake_lem; no_insurance = none.no_insurance; no_sides = none.no_sides }; no_hands = n.no_hands }

    insured : Insured o in_round up s → Insured o in_round up r
    insured n = record { in_round_lem = n.in_round_lem; ace_up = n.ace_up; staked = n.staked; permitted = n.permitted }

pub sound-alike : (o : Options) (in_round : Bool) (up i : ℕ) (r s : Seat) → r.money ≡ s.money → r.hands ≡ s.hands → SoundGuest o in_round up i s → SoundGuest o in_round up i r
sound-alike o in_round up i r s money hands f =
    subst (SoundGuest o in_round up i) (λ j. make_seat (sym money j) r.others (sym hands j) r.first) (sound-beside o in_round up i s r.others r.first f)

-- a guest without money, as in a position or at a seat that is not there
pub no_money : (s : Seat) → s.money ≡ missing_money → (purse s ≡ 0) × NoBets s
no_money s none = (
  ap (λ (m : Money). m.purse) none,
  record { no_stake_lem = ap (λ (m : Money). m.stake) none; no_insurance = ap (λ (m : Money). m.insurance) none; no_sides = λ k l. ap (λ (m : Money). get_or m.sides k 0) none },
)

-- a guest without a stake wins no prize, and one with nothing on the layout has laid nothing
pub unstaked_prizes : (o : Options) (s : Seat) → stake s ≡ 0 → prizes o s ≡ 0
unfolding prizes
unstaked_prizes o s none =
    sum-none (prize o (stake s)) (hands s) (played_of missing_place) (λ k h. omega (arith, prize_most o (stake s) (get_or (hands s) k (played_of missing_place))))

pub nothing-laid : (s : Seat) → NoBets s → laid s ≡ 0
unfolding laid
nothing-laid s n =
    omega (arith, main (eqb (length (hands s)) 0), n.no_sides 0 (omega arith), n.no_sides 1 (omega arith), n.no_sides 2 (omega arith), n.no_sides 3 (omega arith))
  where
    wagers : sum_of (wager (stake s)) (hands s) ≡ 0
    wagers = sum-none (wager (stake s)) (hands s) (played_of missing_place) (λ k h. omega (arith, n.no_stake_lem, (wager_bounds (stake s) (get_or (hands s) k (played_of missing_place))).1))

    main : (b : Bool) → cond b (stake s) (sum_of (wager (stake s)) (hands s) + insurance s) ≡ 0
    main true = n.no_stake_lem
    main false = omega (arith, wagers, n.no_insurance)
