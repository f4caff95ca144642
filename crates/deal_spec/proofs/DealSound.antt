-- The table after an accepted deal is sound: each staked seat has one hand of two cards, the bank the cards that the device gives it, and the burnt cards are
-- discards.
use mathlib.Core.Path.{◌≡◌, refl, sym, ◌∙◌, ap, ap₂}
use mathlib.Core.Bool.{Bool, true, false, cond, true≢false}
use mathlib.Core.List.{List, [], ◌∷◌, ◌++◌}
use Prim.Native.Nat.{ℕ, suc, ◌+◌, ◌*◌, ◌≤◌, ◌<◌}
use native.Mathlib.Decide.{dec_le}
use native.Mathlib.Omega.{arith}
use lib.ListN.{length, take, drop, get_or, length-take, length-drop, get_or-eq_default}
use lib.Seq.{take-add, length-sets}
use borrow.Author.Tests.{ltb-true, ltb-false, lt-ltb}
use Rattle.lists.specs.Sum.{sum_of, is_it}
use Rattle.lists.specs.Tests.{any_of}
use Rattle.lists.specs.Flat.{flat}
use Rattle.lists.proofs.Sums.{sum-append, sum-flat, sum-none, sum_ones, sum-take}
use Rattle.lists.proofs.Places.{same_taken, taken-same}
use Rattle.options.specs.Device.{is_box, bank_at_deal}
use Rattle.payment.specs.Cover.{cover as cover_of, side_cover}
use Rattle.rules.specs.declared.seat_hand.SeatHands.{SeatHands}
use Rattle.table.specs.declared.Money.{Money}
use Rattle.table.specs.declared.Seat.{Seat}
use Rattle.table.specs.declared.Table.{Table}
use Rattle.table.specs.Seat.{missing_seat, guest_at, over_guests, stake, insurance, is_staked, laid, prizes, seat_cards}
use Rattle.table.specs.Table.{seat_at, guest_of, is_dealt, up, hand_cards, bank_cards, table_drawn, table_shoe, table_discards}
use Rattle.table.specs.Money.{all_money}
use Rattle.table.specs.Faces.{out_cards}
use Rattle.table.specs.Shape.{Shaped, ShapedSeat}
use Rattle.table.specs.Aids.Sound.{Sound, SoundSeat}
use Rattle.table.proofs.Guests.{guest-hands, guest_money}
use Rattle.table.proofs.AnyGuest.{any_guest_lem}
use Rattle.table.proofs.Facts.{sound_options, decks_416, room_discards, laid-stake, no_prizes, no_hands}
use Rattle.table.proofs.SeatChange.{sum_out}
use Rattle.deal_spec.specs.Pass.{pass, first_card, second_card}
use Rattle.deal_spec.specs.Deal.{staked_seats, burnt, deal_takes, dealt_seats, up_card, hidden_card, deal_effect}
use Rattle.lists.proofs.Parts.{any_map, part_of_take, sum-places, sum_more}
use Rattle.lists.proofs.Stores.{sets_taken}
use Rattle.deal_spec.proofs.DealAccepted.{DealAccepted}
use Rattle.deal_spec.proofs.DealtBank.{some_at-deal, bank_cards_lem, bank-count, bank-length}
use Rattle.deal_spec.proofs.Pass.{pass_view, pass-length, pass-sum, pass_either, pass-staked, pass-cards}
use Rattle.deal_spec.proofs.DealtSeat.{dealt_seat, dealt-guest, both-cards, first_cards_lem, second_cards, dealt-laid, dealt-prizes, dealt_shaped, dealt-sound}

-- the places of the order: the first pass, the second, and how many staked seats are below a seat
abbrev pub first_place : Table → ℕ
first_place t = t.shoe.drawn + burnt t

abbrev pub second_place : Table → ℕ
second_place t = t.shoe.drawn + burnt t + staked_seats t.seats + 1

abbrev pub staked_before : Table → ℕ → ℕ
staked_before t i = staked_seats (take i t.seats)

-- the two cards of the seat of a number, had it a stake, and that seat
abbrev pub first_of : Table → ℕ → ℕ
first_of t i = get_or t.shoe.order (first_place t + staked_before t i) 0

abbrev pub second_of : Table → ℕ → ℕ
second_of t i = get_or t.shoe.order (second_place t + staked_before t i) 0

abbrev pub dealt_at : Table → ℕ → Seat
dealt_at t i = dealt_seat (seat_at t i) (first_of t i) (second_of t i)

-- b + 2 S + 1 cards from place d of an order whose first K are in the shoe: b, then S, one and S
four_parts : (w : ℕ → ℕ) (order : List ℕ) (d b S K : ℕ) → d + (b + 2 * S + 1) ≤ K → K ≤ length order
    → sum_of w (take (b + 2 * S + 1) (drop d (take K order)))
    ≡ sum_of w (take b (drop d (take K order))) + sum_of w (take S (drop (d + b) order)) + w (get_or order (d + b + S) 0) + sum_of w (take S (drop (d + b + S + 1) order))
four_parts w order d b S K room full =
    let one : d + b + S + 1 ≡ suc (d + b + S) = omega arith in
    let end : d + (b + 2 * S + 1) ≡ d + b + S + 1 + S = omega arith in
    omega (
      arith,
      ap (sum_of w) (part_of_take (b + 2 * S + 1) d K order room),
      ap (sum_of w) (part_of_take b d K order (omega arith)),
      sum_more w order d (b + 2 * S + 1),
      sum_more w order d b,
      sum_more w order (d + b) S,
      sum-take w order (d + b + S) 0 (omega arith),
      ap (λ (n : ℕ). sum_of w (take n order)) one,
      sum_more w order (d + b + S + 1) S,
      ap (λ (n : ℕ). sum_of w (take n order)) end,
    )

-- and one more with the box: what is summed over the bank's cards, of which the up card lies between the two passes
five_parts : (w : ℕ → ℕ) (order : List ℕ) (d b S K : ℕ) (box : Bool) → d + (b + 2 * S + cond box 2 1) ≤ K → K ≤ length order
    → sum_of w (take (b + 2 * S + cond box 2 1) (drop d (take K order)))
    ≡ sum_of w (take b (drop d (take K order))) + sum_of w (take S (drop (d + b) order)) + sum_of w (take S (drop (d + b + S + 1) order))
    + sum_of w (get_or order (d + b + S) 0 ∷ cond box (get_or order (d + b + 2 * S + 1) 0 ∷ []) [])
unfolding sum_of
five_parts w order d b S K false room full = omega (arith, four_parts w order d b S K room full)
five_parts w order d b S K true room full =
    let one : d + (b + 2 * S + 2) ≡ suc (d + b + 2 * S + 1) = omega arith in
    let before : d + (b + 2 * S + 1) ≡ d + b + 2 * S + 1 = omega arith in
    omega (
      arith,
      four_parts w order d b S K (omega arith) full,
      ap (sum_of w) (part_of_take (b + 2 * S + 1) d K order (omega arith)),
      ap (sum_of w) (part_of_take (b + 2 * S + 2) d K order room),
      sum_more w order d (b + 2 * S + 1),
      sum_more w order d (b + 2 * S + 2),
      ap (λ (n : ℕ). sum_of w (take n order)) before,
      ap (λ (n : ℕ). sum_of w (take n order)) one,
      sum-take w order (d + b + 2 * S + 1) 0 (omega arith),
    )

-- a seat without hands has no cards
no_cards_lem : (s : Seat) → s.hands.many ≡ 0 → (w : ℕ → ℕ) → sum_of w (seat_cards s) ≡ 0
unfolding flat sum_of
no_cards_lem s none w = rw (no_hands s none)

module _ (t : Table) (shaped : Shaped t) (ok : DealAccepted t) where
  -- a number past the table's seats has none
  pub past : (i : ℕ) → 9 ≤ i → seat_at t i ≡ missing_seat
  past i h = get_or-eq_default t.seats missing_seat {n = i} (omega arith)

  -- before the deal no seat has a hand, and no guest an insurance
  pub no_hand_yet : (i : ℕ) → (seat_at t i).hands.many ≡ 0
  no_hand_yet i = go (dec_le 9 i) (dec_le (seat_at t i).hands.many 0)
    where
      go : Dec (9 ≤ i) → Dec ((seat_at t i).hands.many ≤ 0) → (seat_at t i).hands.many ≡ 0
      go (yes h) d = rw (past i h)
      go (no h) (yes none) = omega arith
      go (no h) (no some) = absurd (true≢false (sym ((ok.sound.seats i (omega arith)).playing (omega arith)).in_round_lem ∙ ok.between))

  pub no_hands_yet : (i p : ℕ) → (guest_of t i p).hands.many ≡ 0
  no_hands_yet i p = ap (λ (x : SeatHands). x.many) (guest-hands (seat_at t i) p) ∙ no_hand_yet i

  no-insurance-yet : (i p : ℕ) → insurance (guest_of t i p) ≡ 0
  no-insurance-yet i p = any_guest_lem t shaped (λ s. insurance s ≡ 0) i p (λ h l. go h l (dec_le (insurance (guest_of t i p)) 0)) (λ s none. none.no_insurance)
    where
      go : i < 9 → p < 3 → Dec (insurance (guest_of t i p) ≤ 0) → insurance (guest_of t i p) ≡ 0
      go h l (yes none) = omega arith
      go h l (no some) = absurd (true≢false (sym (((ok.sound.seats i h).guests p l).insured (omega arith)).in_round_lem ∙ ok.between))

  -- a staked seat is one of the nine
  pub staked-nine : (i : ℕ) → is_staked (seat_at t i) ≡ true → i < 9
  staked-nine i staked = go (dec_le 9 i)
    where
      go : Dec (9 ≤ i) → i < 9
      go (yes h) = absurd (true≢false (sym staked ∙ ap is_staked (past i h)))
      go (no h) = omega arith

  four : (i : ℕ) → is_staked (seat_at t i) ≡ true → length (seat_at t i).hands.places ≡ 4
  four i staked = (shaped.seats i (staked-nine i staked)).four_places

  four-of : (i p : ℕ) → is_staked (seat_at t i) ≡ true → length (guest_of t i p).hands.places ≡ 4
  four-of i p staked = ap (λ (x : SeatHands). length x.places) (guest-hands (seat_at t i) p) ∙ four i staked

  -- the seats after the first pass
  abbrev once : List Seat
  once = pass first_card t.shoe.order (first_place t) t.seats

  once-staked : (i : ℕ) → staked_seats (take i once) ≡ staked_before t i
  once-staked i = pass-staked first_card t.shoe.order (λ s card. refl) (first_place t) t.seats i

  -- what holds of a seat after both, staked or not
  pub dealt_either : (i : ℕ) (P : Seat → Type 0) → (is_staked (seat_at t i) ≡ true → P (dealt_at t i)) → (is_staked (seat_at t i) ≡ false → P (seat_at t i)) → P (get_or (dealt_seats t) i missing_seat)
  unfolding dealt_seats
  dealt_either i P given idle =
      let both =
      pass_either first_card t.shoe.order (first_place t) t.seats i
      (λ x. (is_staked x ≡ true → P (second_card x (second_of t i))) × (is_staked x ≡ false → P x))
      (λ staked. (λ still. rw (both-cards (seat_at t i) (four i staked) (first_of t i) (second_of t i)) (given staked), λ none. absurd (true≢false (sym staked ∙ none))))
      (λ none. (λ staked. absurd (true≢false (sym staked ∙ none)), λ still. idle none)) in
      pass_either second_card t.shoe.order (second_place t) once i P
      (rw (once-staked i) both.0) both.1

  -- each guest's money stays
  over-money : (f : Money → ℕ) → sum_of (over_guests (λ s. f s.money)) (dealt_seats t) ≡ sum_of (over_guests (λ s. f s.money)) t.seats
  unfolding dealt_seats
  over-money f =
      pass-sum second_card t.shoe.order (over_guests (λ s. f s.money)) (λ s card. same (second_card s card) s refl refl) (second_place t) once
      ∙ pass-sum first_card t.shoe.order (over_guests (λ s. f s.money)) (λ s card. same (first_card s card) s refl refl) (first_place t) t.seats
    where
      same : (r s : Seat) → r.money ≡ s.money → r.others ≡ s.others → over_guests (λ x. f x.money) r ≡ over_guests (λ x. f x.money) s
      same r s money others =
          let of : (p : ℕ) → f (guest_at r p).money ≡ f (guest_at s p).money = λ p. ap f (guest_money r s money others p) in
          omega (arith, of 0, of 1, of 2)

  some-staked : any_of is_staked (dealt_seats t) ≡ any_of is_staked t.seats
  unfolding dealt_seats
  some-staked =
      sym (any_map (λ b. b) is_staked (dealt_seats t))
      ∙ ap (any_of (λ b. b)) (pass_view second_card t.shoe.order is_staked (λ s card. refl) (second_place t) once ∙ pass_view first_card t.shoe.order is_staked (λ s card. refl) (first_place t) t.seats)
      ∙ any_map (λ b. b) is_staked t.seats

  as_many : length (dealt_seats t) ≡ length t.seats
  unfolding dealt_seats
  as_many = pass-length second_card t.shoe.order (second_place t) once ∙ pass-length first_card t.shoe.order (first_place t) t.seats

  -- what a guest laid is the stake and the side stakes, before the deal and after it
  pub laid-after : (i p : ℕ) → laid (guest_at (get_or (dealt_seats t) i missing_seat) p) ≡ laid (guest_of t i p)
  laid-after i p =
      dealt_either i (λ x. laid (guest_at x p) ≡ laid (guest_of t i p))
      (λ staked.
      omega (
        arith,
        ap laid (dealt-guest (seat_at t i) (first_of t i) (second_of t i) p),
        dealt-laid (guest_of t i p) (four-of i p staked) (first_of t i) (second_of t i),
        laid-stake (guest_of t i p) (no_hands_yet i p),
        no-insurance-yet i p,
      ))
      (λ none. refl)

  pub prizes-after : (i p : ℕ) → prizes t.options (guest_at (get_or (dealt_seats t) i missing_seat) p) ≡ 0
  prizes-after i p =
      dealt_either i (λ x. prizes t.options (guest_at x p) ≡ 0)
      (λ staked.
      ap (prizes t.options) (dealt-guest (seat_at t i) (first_of t i) (second_of t i) p)
      ∙ dealt-prizes (guest_of t i p) (four-of i p staked) (first_of t i) (second_of t i) t.options)
      (λ none. no_prizes t.options (guest_of t i p) (no_hands_yet i p))

  over-laid : sum_of (over_guests laid) (dealt_seats t) ≡ sum_of (over_guests laid) t.seats
  over-laid = sum-places (over_guests laid) (dealt_seats t) t.seats missing_seat as_many (λ i h. omega (arith, laid-after i 0, laid-after i 1, laid-after i 2))

  pub deal_money : all_money (deal_effect t) ≡ all_money t
  unfolding deal_effect
  deal_money = omega (arith, over-laid, over-money (λ m. m.purse))

  -- the cards of the seats, whatever is summed over them
  order-length : length t.shoe.order ≡ 416
  order-length = shaped.order

  all-places : t.shoe.drawn + (burnt t + 2 * staked_seats t.seats + 1) ≤ 416
  unfolding deal_takes
  all-places = omega (arith, ok.enough, decks_416 t ok.sound, some_at-deal t.options)

  first-given : (w : ℕ → ℕ) → sum_of (λ x. sum_of w (seat_cards x)) once ≡ sum_of (λ x. sum_of w (seat_cards x)) t.seats + sum_of w (take (staked_seats t.seats) (drop (first_place t) t.shoe.order))
  first-given w =
      pass-cards first_card t.shoe.order (λ x. sum_of w (seat_cards x)) w (first_place t) t.seats (omega (arith, all-places, order-length))
      (λ i staked card. omega (arith, first_cards_lem (seat_at t i) (four i staked) card 0 w, no_cards_lem (seat_at t i) (no_hand_yet i) w))

  second-given : (w : ℕ → ℕ) → sum_of (λ x. sum_of w (seat_cards x)) (dealt_seats t) ≡ sum_of (λ x. sum_of w (seat_cards x)) once + sum_of w (take (staked_seats t.seats) (drop (second_place t) t.shoe.order))
  unfolding dealt_seats
  second-given w =
      let as-staked = pass-sum first_card t.shoe.order (λ s. cond (is_staked s) 1 0) (λ s card. refl) (first_place t) t.seats in
      rw as-staked at
      (pass-cards second_card t.shoe.order (λ x. sum_of w (seat_cards x)) w (second_place t) once (omega (arith, all-places, order-length, as-staked))
      (λ i. pass_either first_card t.shoe.order (first_place t) t.seats i
      (λ x. is_staked x ≡ true → (card : ℕ) → sum_of w (seat_cards (second_card x card)) ≡ sum_of w (seat_cards x) + w card)
      (λ staked still card. second_cards (seat_at t i) (four i staked) (first_of t i) card w)
      (λ none staked. absurd (true≢false (sym staked ∙ none)))))

  -- the bank has no card yet
  no-bank-yet : (w : ℕ → ℕ) → sum_of w (bank_cards t) ≡ 0
  no-bank-yet w = sum-none w (bank_cards t) 0 (λ i h. absurd (omega (arith, ltb-false 0 (length (bank_cards t)) ok.between)))

  -- the burnt cards
  abbrev burnt_cards : List ℕ
  burnt_cards = take (burnt t) (table_shoe t)

  shoe-takes : (k : ℕ) → t.shoe.drawn + k ≤ 52 * t.options.decks → length (take k (table_shoe t)) ≡ k
  shoe-takes k room = simp (length-take, length-drop, shaped.order) (omega (arith, decks_416 t ok.sound))

  burnt-many : length burnt_cards ≡ burnt t
  unfolding deal_takes
  burnt-many = shoe-takes (burnt t) (omega (arith, ok.enough))

  burnt-within : burnt t ≤ deal_takes t
  unfolding deal_takes
  burnt-within = omega arith

  burnt-room : t.shoe.discarded + length burnt_cards ≤ 416
  burnt-room = omega (arith, all-places, burnt-many, room_discards t shaped.discards ok.sound)

  discards-after : table_discards (deal_effect t) ≡ table_discards t ++ burnt_cards
  unfolding deal_effect
  discards-after = sets_taken t.shoe.discards t.shoe.discarded burnt_cards (omega (arith, burnt-room, shaped.discards))

  -- between rounds all drawn cards are discards, so that the burnt ones are the next
  all_discarded : t.shoe.discarded ≡ t.shoe.drawn
  all_discarded =
      omega (
        arith,
        room_discards t shaped.discards ok.sound,
        sum_ones (hand_cards t ++ bank_cards t),
        sum-append (λ x. 1) (hand_cards t) (bank_cards t),
        sum-flat (λ x. 1) seat_cards t.seats,
        no-bank-yet (λ x. 1),
        sum-none (λ s. sum_of (λ x. 1) (seat_cards s)) t.seats missing_seat (λ i h. no_cards_lem (seat_at t i) (no_hand_yet i) (λ x. 1)),
      )

  discards-first : table_discards t ≡ take t.shoe.discarded t.shoe.order
  discards-first =
      taken-same t.shoe.discarded t.shoe.discards t.shoe.order 0 ok.sound.discards (omega (arith, shaped.discards, order-length))

  burnt-next : burnt_cards ≡ take (length burnt_cards) (drop t.shoe.discarded t.shoe.order)
  burnt-next =
      part_of_take (burnt t) t.shoe.drawn (52 * t.options.decks) t.shoe.order (omega (arith, ok.enough, burnt-within))
      ∙ ap₂ (λ (n d : ℕ). take n (drop d t.shoe.order)) (sym burnt-many) (sym all_discarded)

  burns-next : table_discards (deal_effect t) ≡ take (t.shoe.discarded + length burnt_cards) t.shoe.order
  burns-next = discards-after ∙ ap₂ ◌++◌ discards-first burnt-next ∙ sym (take-add t.shoe.discarded (length burnt_cards) t.shoe.order)

  -- what the deal takes of the shoe: the burnt cards, the first pass, the second, and the bank's cards
  taken-parts : (w : ℕ → ℕ)
      → sum_of w (take (deal_takes t) (table_shoe t))
      ≡ sum_of w burnt_cards + sum_of w (take (staked_seats t.seats) (drop (first_place t) t.shoe.order)) + sum_of w (take (staked_seats t.seats) (drop (second_place t) t.shoe.order)) + sum_of w (bank_cards (deal_effect t))
  unfolding deal_effect deal_takes bank_at_deal up_card hidden_card
  taken-parts w =
      rw (bank_cards_lem t.options (up_card t) (hidden_card t))
      (five_parts w t.shoe.order t.shoe.drawn (burnt t) (staked_seats t.seats) (52 * t.options.decks) (is_box t.options) ok.enough (omega (arith, decks_416 t ok.sound, order-length)))

  out-cards : (w : ℕ → ℕ) → sum_of w (out_cards (deal_effect t)) ≡ sum_of w (out_cards t) + sum_of w (take (deal_takes t) (table_shoe t))
  unfolding deal_effect
  out-cards w =
      omega (
        arith,
        sum_out (deal_effect t) w,
        sum_out t w,
        ap (sum_of w) discards-after,
        sum-append w (table_discards t) burnt_cards,
        first-given w,
        second-given w,
        no-bank-yet w,
        taken-parts w,
      )

  drawn-cards : (w : ℕ → ℕ) → sum_of w (table_drawn (deal_effect t)) ≡ sum_of w (table_drawn t) + sum_of w (take (deal_takes t) (table_shoe t))
  unfolding deal_effect
  drawn-cards w = rw (take-add, sum-append)

  seat-shaped : (i : ℕ) → i < 9 → ShapedSeat (get_or (dealt_seats t) i missing_seat)
  seat-shaped i h =
      dealt_either i ShapedSeat
      (λ staked. dealt_shaped (seat_at t i) (four i staked) (first_of t i) (second_of t i) (shaped.seats i h))
      (λ none. shaped.seats i h)

  pub deal_shaped : Shaped (deal_effect t)
  unfolding deal_effect
  deal_shaped = record {
    nine_seats_lem = as_many ∙ shaped.nine_seats_lem;
    seats = seat-shaped;
    bank = bank-length t.options (up_card t) (hidden_card t);
    order = shaped.order;
    discards = length-sets t.shoe.discards t.shoe.discarded burnt_cards ∙ shaped.discards;
  }

  -- a seat without a stake has no hand, and stays sound
  idle-sound : (i card : ℕ) → i < 9 → is_staked (seat_at t i) ≡ false → SoundSeat t.options true card i (seat_at t i)
  idle-sound i card h none =
      let f = ok.sound.seats i h in
      record {
        guests = λ p l.
            record {
              beyond = (f.guests p l).beyond;
              stake_fits = (f.guests p l).stake_fits;
              insured = λ some. absurd (omega (arith, no-insurance-yet i p));
              sides_fit = (f.guests p l).sides_fit;
              prizes_back = (f.guests p l).prizes_back;
            };
        seated_first_lem = f.seated_first_lem;
        waiting = λ empty dealt. omega (arith, ltb-false 0 (stake (seat_at t i)) none);
        playing = λ some. absurd (omega (arith, no_hand_yet i));
      }

  seat-sound : (i card : ℕ) → i < 9 → SoundSeat t.options true card i (get_or (dealt_seats t) i missing_seat)
  seat-sound i card h =
      dealt_either i (SoundSeat t.options true card i)
      (λ staked.
      dealt-sound (seat_at t i) (four i staked) (first_of t i) (second_of t i)
      t.options (up t) card i (sound_options t ok.sound).hands_least (ltb-true 0 (stake (seat_at t i)) staked)
      (rw ok.between at (ok.sound.seats i h)))
      (idle-sound i card h)

  pub now-dealt : is_dealt (deal_effect t) ≡ true
  unfolding deal_effect
  now-dealt = lt-ltb 0 (length (bank_cards (deal_effect t))) (omega (arith, ap length (bank_cards_lem t.options (up_card t) (hidden_card t))))

  pub deal-sound : Sound (deal_effect t)
  unfolding deal_effect
  deal-sound = record {
    options = ok.sound.options;
    begun = omega arith;
    begun_drawn = λ some. refl;
    valid = ok.sound.valid;
    drawn = ok.enough;
    discarded = burnt-room;
    discarded_drawn = omega (arith, all_discarded, burnt-many, burnt-within);
    discards = same_taken (t.shoe.discarded + length burnt_cards) (deal_effect t).shoe.discards t.shoe.order 0 burns-next;
    faces = λ b h. omega (arith, out-cards (is_it b), drawn-cards (is_it b), ok.sound.faces b h);
    number = omega (arith, out-cards (λ x. 1), shoe-takes (deal_takes t) ok.enough, sum_ones (out_cards (deal_effect t)), sum_ones (out_cards t), sum_ones (take (deal_takes t) (table_shoe t)), ok.sound.number);
    seats = λ i h. rw now-dealt (seat-sound i (up (deal_effect t)) h);
    bank = λ some. bank-count t.options (up_card t) (hidden_card t);
    round = λ dealt. some-staked ∙ ok.some;
    money = omega (arith, deal_money, ok.sound.money);
    cover = λ dealt. omega (arith, over-money (λ m. cover_of m.stake + side_cover m.sides), ok.covered);
  }
