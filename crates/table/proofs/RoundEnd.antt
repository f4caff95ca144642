-- A round that ends, closed or voided: no seat keeps a stake, an insurance, a side stake or a hand, and all drawn cards are the discards.
-- What the new purses, the new tray and the new shoe must give for the table to stay sound.
use mathlib.Core.Path.{◌≡◌, refl, sym, ◌∙◌, ap}
use mathlib.Core.Bool.{false, true≢false}
use mathlib.Core.List.{List, map}
use Prim.Native.Nat.{ℕ, zero, suc, ◌+◌, ◌*◌, ◌≤◌, ◌<◌}
use native.Mathlib.Decide.{dec_le}
use native.Mathlib.Omega.{arith}
use lib.ListN.{length, take, get_or, length-map, get_or-map, get_or-replicate}
use lib.Seq.{sets, length-sets, length-take-le, take-take}
use Rattle.lists.specs.Sum.{sum_of, is_it}
use Rattle.lists.specs.Flat.{flat}
use Rattle.lists.proofs.Sums.{sum-map, sum-none, sum-at-same, sum_ones}
use Rattle.lists.proofs.Places.{get_d_any, same_taken}
use Rattle.lists.proofs.Stores.{sets_front}
use Rattle.cards.specs.Hand.{empty_hand}
use Rattle.options.specs.declared.Options.{Options}
use Rattle.rules.specs.declared.seat_hand.SeatHand.{SeatHand}
use Rattle.rules.specs.declared.seat_hand.SeatHands.{SeatHands}
use Rattle.table.specs.declared.Money.{Money}
use Rattle.table.specs.declared.Seat.{Seat}
use Rattle.table.specs.declared.Shoe.{Shoe}
use Rattle.table.specs.declared.Table.{Table}
use Rattle.table.specs.Guest.{holding, missing_money}
use Rattle.table.specs.Seat.{cleared_seat, missing_seat, empty_place, missing_place, guest_at, over_guests, purse, laid, prizes, seat_cards}
use Rattle.table.specs.Shoe.{discards_of}
use Rattle.table.specs.Table.{make_table, seat_at, guest_of, is_dealt, up, table_drawn}
use Rattle.table.specs.Money.{all_money}
use Rattle.table.specs.Faces.{out_cards}
use Rattle.table.specs.Shape.{Shaped, ShapedSeat}
use Rattle.table.specs.Aids.Sound.{Sound, SoundSeat, SoundGuest, NoBets}
use Rattle.table.proofs.Guests.{guest-hands, guest_beyond}
use Rattle.table.proofs.Facts.{decks_416, still_begun, nothing-laid, unstaked_prizes}
use Rattle.table.proofs.SeatChange.{sum_out}

-- a seat at the end of the round, with its guests' new purses: `purse_of` is asked of each guest
abbrev pub cleared : (Seat → ℕ) → Seat → Seat
cleared purse-of s = cleared_seat (λ p. purse-of (guest_at s p))

-- the table after it
abbrev pub round_ended : Table → ℕ → (Seat → ℕ) → Shoe → Table
round_ended t tray purse-of shoe = make_table t.options tray (map (cleared purse-of) t.seats) empty_hand shoe

-- k cards more are drawn, and all drawn cards are discards
pub record RoundEnd (t : Table) (tray : ℕ) (purse-of : Seat → ℕ) (shoe : Shoe) (k : ℕ) : Type 0 where
  pub paid : tray + sum_of (over_guests purse-of) t.seats ≡ all_money t
  pub nothing_stays : (s : Seat) → purse s ≡ 0 → NoBets s → purse-of s ≡ 0
  pub same_order : shoe.order ≡ t.shoe.order
  pub more_drawn : shoe.drawn ≡ t.shoe.drawn + k
  pub same_begun : shoe.begun ≡ t.shoe.begun
  pub drawn_before : 0 < k → 0 < t.shoe.drawn
  pub enough : t.shoe.drawn + k ≤ 52 * t.options.decks
  pub all_discards : shoe.discards ≡ sets t.shoe.discards 0 (take shoe.drawn shoe.order)
  pub all_discarded : shoe.discarded ≡ shoe.drawn

-- a guest of such a seat has the new purse and no bets, and past the third position nothing at all
cleared-guest : (purse-of : Seat → ℕ) (s : Seat) (p : ℕ) → p < 3 → (guest_at (cleared purse-of s) p).money ≡ holding (purse-of (guest_at s p))
unfolding guest_at
cleared-guest purse-of s zero h = refl
cleared-guest purse-of s (suc zero) h = refl
cleared-guest purse-of s (suc (suc zero)) h = refl
cleared-guest purse-of s (suc (suc (suc p))) h = absurd (omega arith)

cleared_beyond : (purse-of : Seat → ℕ) (s : Seat) (p : ℕ) → 3 ≤ p → (guest_at (cleared purse-of s) p).money ≡ missing_money
cleared_beyond purse-of s p h = guest_beyond (cleared purse-of s) p (omega arith)

pub cleared-purse : (purse-of : Seat → ℕ) (s : Seat) (p : ℕ) → (3 ≤ p → purse-of (guest_at s p) ≡ 0) → purse (guest_at (cleared purse-of s) p) ≡ purse-of (guest_at s p)
cleared-purse purse-of s p none = go (dec_le 3 p)
  where
    go : Dec (3 ≤ p) → purse (guest_at (cleared purse-of s) p) ≡ purse-of (guest_at s p)
    go (yes h) = ap (λ (m : Money). m.purse) (cleared_beyond purse-of s p h) ∙ sym (none h)
    go (no h) = ap (λ (m : Money). m.purse) (cleared-guest purse-of s p (omega arith))

pub cleared-bets : (purse-of : Seat → ℕ) (s : Seat) (p : ℕ) → NoBets (guest_at (cleared purse-of s) p)
cleared-bets purse-of s p = go (dec_le 3 p)
  where
    go : Dec (3 ≤ p) → NoBets (guest_at (cleared purse-of s) p)
    go (yes h) =
        let none = cleared_beyond purse-of s p h in
        record {
          no_stake_lem = ap (λ (m : Money). m.stake) none;
          no_insurance = ap (λ (m : Money). m.insurance) none;
          no_sides = λ k l. ap (λ (m : Money). get_or m.sides k 0) none;
        }
    go (no h) =
        let new = cleared-guest purse-of s p (omega arith) in
        record {
          no_stake_lem = ap (λ (m : Money). m.stake) new;
          no_insurance = ap (λ (m : Money). m.insurance) new;
          no_sides = λ k l. ap (λ (m : Money). get_or m.sides k 0) new ∙ get_or-replicate {A = ℕ} 4 k 0 0 l;
        }

-- so it has nothing laid and no prize; and the seat has no card
pub cleared-laid : (purse-of : Seat → ℕ) (s : Seat) (p : ℕ) → laid (guest_at (cleared purse-of s) p) ≡ 0
cleared-laid purse-of s p = nothing-laid (guest_at (cleared purse-of s) p) (cleared-bets purse-of s p)

pub cleared-prizes : (o : Options) (purse-of : Seat → ℕ) (s : Seat) (p : ℕ) → prizes o (guest_at (cleared purse-of s) p) ≡ 0
cleared-prizes o purse-of s p = unstaked_prizes o (guest_at (cleared purse-of s) p) (cleared-bets purse-of s p).no_stake_lem

cleared-cards : (w : ℕ → ℕ) (purse-of : Seat → ℕ) (s : Seat) → sum_of w (seat_cards (cleared purse-of s)) ≡ 0
unfolding sum_of flat
cleared-cards w purse-of s = refl

-- the seat of a number that the table has
pub cleared_at : (purse-of : Seat → ℕ) (seats : List Seat) (i : ℕ) → i < length seats → get_or (map (cleared purse-of) seats) i missing_seat ≡ cleared purse-of (get_or seats i missing_seat)
cleared_at purse-of seats i h = get_d_any (map (cleared purse-of) seats) i missing_seat (cleared purse-of missing_seat) (omega (arith, length-map seats (cleared purse-of))) ∙ get_or-map (cleared purse-of) seats i missing_seat

cleared_shaped : (purse-of : Seat → ℕ) (s : Seat) → ShapedSeat (cleared purse-of s)
cleared_shaped purse-of s =
    record {
      four_places = refl;
      two_others = refl;
      four_sides = λ p h. ap (λ (m : Money). length m.sides) (cleared-guest purse-of s p h);
      three_first = refl;
      twenty_cards = λ p h. ap (λ (x : SeatHand). length x.hand.cards) (get_or-replicate 4 p empty_place missing_place h);
    }

module _ (t : Table) (tray : ℕ) (purse-of : Seat → ℕ) (shoe : Shoe) (k : ℕ) (shaped : Shaped t) (sound : Sound t) (end : RoundEnd t tray purse-of shoe k) where
  abbrev after : Table
  after = round_ended t tray purse-of shoe

  all-drawn : shoe.drawn ≤ 52 * t.options.decks
  all-drawn = omega (arith, end.more_drawn, end.enough)

  -- the drawn part of the order, and the discards are it
  drawn-length : length (take shoe.drawn shoe.order) ≡ shoe.drawn
  drawn-length = length-take-le shoe.drawn shoe.order (omega (arith, all-drawn, decks_416 t sound, ap length end.same_order, shaped.order))

  discards-after : discards_of shoe ≡ take shoe.drawn shoe.order
  discards-after =
      let cards = take shoe.drawn shoe.order in
      ap (λ (n : ℕ). take n shoe.discards) (end.all_discarded ∙ sym drawn-length)
      ∙ ap (take (length cards)) end.all_discards
      ∙ sets_front t.shoe.discards cards (omega (arith, drawn-length, all-drawn, decks_416 t sound, shaped.discards))

  pub end_shaped : Shaped after
  end_shaped = record {
    nine_seats_lem = length-map t.seats (cleared purse-of) ∙ shaped.nine_seats_lem;
    seats = λ i h. rw (cleared_at purse-of t.seats i (omega arith)) (cleared_shaped purse-of (seat_at t i));
    bank = refl;
    order = ap length end.same_order ∙ shaped.order;
    discards = ap length end.all_discards ∙ length-sets t.shoe.discards 0 (take shoe.drawn shoe.order) ∙ shaped.discards;
  }

  -- a number that each such seat has 0 of comes to 0
  over_none : (f : Seat → ℕ) → ((s : Seat) → f (cleared purse-of s) ≡ 0) → sum_of f (map (cleared purse-of) t.seats) ≡ 0
  over_none f h = sum-map f (cleared purse-of) t.seats ∙ sum-none (λ s. f (cleared purse-of s)) t.seats missing_seat (λ i l. h (seat_at t i))

  pub end_money : all_money after ≡ all_money t
  end_money =
      omega (
        arith,
        over_none (over_guests laid) (λ s. omega (arith, cleared-laid purse-of s 0, cleared-laid purse-of s 1, cleared-laid purse-of s 2)),
        sum-map (over_guests purse) (cleared purse-of) t.seats,
        sum-at-same (λ s. over_guests purse (cleared purse-of s)) (over_guests purse-of) t.seats missing_seat (λ i h. new-purses (seat_at t i)),
        end.paid,
      )
    where
      new : (s : Seat) (p : ℕ) → p < 3 → purse (guest_at (cleared purse-of s) p) ≡ purse-of (guest_at s p)
      new s p h = cleared-purse purse-of s p (λ beyond. absurd (omega arith))

      new-purses : (s : Seat) → over_guests purse (cleared purse-of s) ≡ over_guests purse-of s
      new-purses s = omega (arith, new s 0 (omega arith), new s 1 (omega arith), new s 2 (omega arith))

  -- whatever is summed over the cards that are out: they are the drawn part of the order
  out-cards : (w : ℕ → ℕ) → sum_of w (out_cards after) ≡ sum_of w (table_drawn after)
  unfolding sum_of
  out-cards w =
      omega (
        arith,
        sum_out after w,
        over_none (λ s. sum_of w (seat_cards s)) (cleared-cards w purse-of),
        ap (sum_of w) discards-after,
        ap (sum_of w) (take-take shoe.drawn (52 * t.options.decks) shoe.order all-drawn),
      )

  end-guest : (i p : ℕ) → p < 3 → SoundGuest t.options (is_dealt t) (up t) i (guest_of t i p) → SoundGuest t.options false (up after) i (guest_at (cleared purse-of (seat_at t i)) p)
  end-guest i p l was =
      let s = seat_at t i in
      let none = cleared-bets purse-of s p in
      record {
        beyond = λ h.
            record {
              no_purse = cleared-purse purse-of s p (λ far. absurd (omega arith)) ∙ end.nothing_stays (guest_at s p) (was.beyond h).no_purse (was.beyond h).no_bets;
              no_bets = none;
              no_hands = ap (λ (x : SeatHands). x.many) (guest-hands (cleared purse-of s) p);
            };
        stake_fits = λ h. absurd (omega (arith, none.no_stake_lem));
        insured = λ h. absurd (omega (arith, none.no_insurance));
        sides_fit = λ k m h. absurd (omega (arith, none.no_sides k m));
        prizes_back = omega (arith, cleared-prizes t.options purse-of s p);
      }

  end-seat : (i : ℕ) → SoundSeat t.options (is_dealt t) (up t) i (seat_at t i) → SoundSeat t.options false (up after) i (cleared purse-of (seat_at t i))
  end-seat i s =
      record {
        guests = λ p h. end-guest i p h (s.guests p h);
        seated_first_lem = λ p h none. (cleared-bets purse-of (seat_at t i) p).no_stake_lem;
        waiting = λ none dealt. refl;
        playing = λ h. absurd (omega arith);
      }

  pub end-sound : Sound after
  end-sound = record {
    options = sound.options;
    begun = (still_begun t shoe k sound end.same_begun end.more_drawn end.drawn_before).0;
    begun_drawn = (still_begun t shoe k sound end.same_begun end.more_drawn end.drawn_before).1;
    valid = rw end.same_order sound.valid;
    drawn = all-drawn;
    discarded = omega (arith, end.all_discarded, all-drawn, decks_416 t sound);
    discarded_drawn = omega (arith, end.all_discarded);
    discards = λ i h. same_taken shoe.discarded shoe.discards shoe.order 0 (discards-after ∙ ap (λ (n : ℕ). take n shoe.order) (sym end.all_discarded)) i h;
    faces = λ b h. out-cards (is_it b);
    number =
        omega (
          arith,
          out-cards (λ x. 1),
          sum_ones (out_cards after),
          sum_ones (table_drawn after),
          ap length (take-take shoe.drawn (52 * t.options.decks) shoe.order all-drawn),
          drawn-length,
        );
    seats = λ i h. rw (cleared_at purse-of t.seats i (omega arith)) (end-seat i (sound.seats i h));
    bank = λ some. absurd (omega arith);
    round = λ dealt. absurd (true≢false (sym dealt));
    money = omega (arith, end_money, sound.money);
    cover = λ dealt. absurd (true≢false (sym dealt));
  }
