-- A call of one seat: a new seat in place j, another tray, and k cards more drawn. What it must give for the table to stay sound.
use mathlib.Core.Path.{◌≡◌, ◌∙◌, ap}
use mathlib.Core.Bool.{true}
use Prim.Native.Nat.{ℕ, ◌+◌, ◌*◌, ◌≤◌, ◌<◌}
use native.Mathlib.Omega.{arith}
use lib.ListN.{length, take, set, length-set, length-take, length-drop}
use lib.Seq.{take-add}
use Rattle.lists.specs.Sum.{sum_of, is_it}
use Rattle.lists.proofs.Sums.{sum-append, sum-flat, sum-set, sum_ones}
use Rattle.lists.proofs.Tests.{any_set}
use Rattle.lists.proofs.Places.{holds-set}
use Rattle.options.proofs.Facts.{in_range_facts}
use Rattle.table.specs.declared.Seat.{Seat}
use Rattle.table.specs.declared.Shoe.{Shoe}
use Rattle.table.specs.declared.Table.{Table}
use Rattle.table.specs.Seat.{missing_seat, over_guests, purse, is_staked, laid, prizes, seat_cards, seat_cover}
use Rattle.table.specs.Shoe.{discards_of}
use Rattle.table.specs.Table.{make_table, seat_at, is_dealt, up, bank_cards, table_drawn, table_shoe, table_discards}
use Rattle.table.specs.Money.{most_money, all_money}
use Rattle.table.specs.Faces.{out_cards}
use Rattle.table.specs.Shape.{Shaped, ShapedSeat}
use Rattle.table.specs.Aids.Sound.{Sound, SoundSeat}
use Rattle.table.proofs.Facts.{still_begun}

-- whatever is summed over the cards that are out: the seats' parts, the bank's and the discards'
pub sum_out : (t : Table) (w : ℕ → ℕ) → sum_of w (out_cards t) ≡ sum_of (λ x. sum_of w (seat_cards x)) t.seats + sum_of w (bank_cards t) + sum_of w (table_discards t)
sum_out t w = rw (sum-append, sum-append, sum-flat)

-- the table after such a call
abbrev pub changed : Table → ℕ → ℕ → Seat → Shoe → Table
changed t j tray s shoe = make_table t.options tray (set t.seats j s) t.bank shoe

-- `came` is money that comes onto the table by the call, `went` money that leaves it
pub record SeatChange (t : Table) (j tray : ℕ) (s : Seat) (shoe : Shoe) (k came went : ℕ) : Type 0 where
  pub within : j < t.options.seats
  pub shaped_seat : ShapedSeat s
  pub sound_seat_lem : SoundSeat t.options (is_dealt t) (up t) j s
  pub same_staked : is_dealt t ≡ true → is_staked s ≡ is_staked (seat_at t j)
  pub same_cover : is_dealt t ≡ true → over_guests seat_cover s ≡ over_guests seat_cover (seat_at t j)
  pub paid : tray + over_guests laid s + over_guests purse s + went ≡ t.tray + over_guests laid (seat_at t j) + over_guests purse (seat_at t j) + came
  pub in_limit : all_money t + came ≤ most_money + went
  pub prizes_paid : is_dealt t ≡ true → tray + over_guests (prizes t.options) s ≡ t.tray + over_guests (prizes t.options) (seat_at t j)
  pub same_order : shoe.order ≡ t.shoe.order
  pub same_discards : shoe.discards ≡ t.shoe.discards
  pub same_discarded : shoe.discarded ≡ t.shoe.discarded
  pub more_drawn : shoe.drawn ≡ t.shoe.drawn + k
  pub same_begun : shoe.begun ≡ t.shoe.begun
  pub drawn_before : 0 < k → 0 < t.shoe.drawn
  pub enough : t.shoe.drawn + k ≤ 52 * t.options.decks
  pub cards_moved : (w : ℕ → ℕ) → sum_of w (seat_cards s) ≡ sum_of w (seat_cards (seat_at t j)) + sum_of w (take k (table_shoe t))

module _ (t : Table) (j tray : ℕ) (s : Seat) (shoe : Shoe) (k came went : ℕ) (shaped : Shaped t) (sound : Sound t) (ch : SeatChange t j tray s shoe k came went) where
  -- place j is one of the nine
  here : j < length t.seats
  here = omega (arith, (in_range_facts t.options sound.options).seats_most)

  -- a sum over the seats changes by the seat's part
  over-seats : (f : Seat → ℕ) → sum_of f (set t.seats j s) + f (seat_at t j) ≡ sum_of f t.seats + f s
  over-seats f = sum-set f t.seats j s missing_seat here

  pub change_shaped : Shaped (changed t j tray s shoe)
  change_shaped = record {
    nine_seats_lem = length-set t.seats j s ∙ shaped.nine_seats_lem;
    seats = λ i h. holds-set (λ n x. ShapedSeat x) t.seats j i s missing_seat here ch.shaped_seat (shaped.seats i h);
    bank = shaped.bank;
    order = ap length ch.same_order ∙ shaped.order;
    discards = ap length ch.same_discards ∙ shaped.discards;
  }

  pub change_money : all_money (changed t j tray s shoe) + went ≡ all_money t + came
  change_money = omega (arith, over-seats (over_guests laid), over-seats (over_guests purse), ch.paid)

  -- whatever is summed over cards, what is drawn now comes to the cards that are out and to the drawn part of the order
  out-cards : (w : ℕ → ℕ) → sum_of w (out_cards (changed t j tray s shoe)) ≡ sum_of w (out_cards t) + sum_of w (take k (table_shoe t))
  out-cards w =
      let discards : sum_of w (discards_of shoe) ≡ sum_of w (table_discards t) = rw (ch.same_discarded, ch.same_discards) in
      omega (arith, sum_out (changed t j tray s shoe) w, sum_out t w, over-seats (λ x. sum_of w (seat_cards x)), ch.cards_moved w)

  drawn-cards : (w : ℕ → ℕ) → sum_of w (table_drawn (changed t j tray s shoe)) ≡ sum_of w (table_drawn t) + sum_of w (take k (table_shoe t))
  drawn-cards w = rw (ch.more_drawn, ch.same_order, take-add, sum-append)

  -- the shoe has the k cards
  all-drawn : length (take k (table_shoe t)) ≡ k
  all-drawn = simp (length-take, length-drop, shaped.order) (omega (arith, (in_range_facts t.options sound.options).decks_most))

  pub change_sound : Sound (changed t j tray s shoe)
  change_sound = record {
    options = sound.options;
    begun = (still_begun t shoe k sound ch.same_begun ch.more_drawn ch.drawn_before).0;
    begun_drawn = (still_begun t shoe k sound ch.same_begun ch.more_drawn ch.drawn_before).1;
    valid = rw ch.same_order sound.valid;
    drawn = omega arith;
    discarded = omega arith;
    discarded_drawn = omega arith;
    discards = λ k h. rw (ch.same_discards, ch.same_order) (sound.discards k (omega arith));
    faces = λ b h. omega (arith, out-cards (is_it b), drawn-cards (is_it b), sound.faces b h);
    number = omega (arith, out-cards (λ x. 1), all-drawn, sum_ones (out_cards (changed t j tray s shoe)), sum_ones (out_cards t), sum_ones (take k (table_shoe t)));
    seats = λ i h. holds-set (SoundSeat t.options (is_dealt t) (up t)) t.seats j i s missing_seat here ch.sound_seat_lem (sound.seats i h);
    bank = sound.bank;
    round = λ dealt. any_set is_staked t.seats j s missing_seat (ch.same_staked dealt) ∙ sound.round dealt;
    money = omega (arith, change_money);
    cover = λ dealt. omega (arith, over-seats (over_guests seat_cover), over-seats (over_guests (prizes t.options)), ch.same_cover dealt, ch.prizes_paid dealt, sound.cover dealt);
  }
