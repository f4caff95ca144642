-- An accepted load keeps the table good: the new shoe has nothing drawn and no discards, and between rounds no card lies anywhere else.
use mathlib.Core.Path.{◌≡◌, refl, sym, ◌∙◌}
use mathlib.Core.Bool.{Bool, true, false, cond}
use mathlib.Core.List.{List, [], ◌∷◌}
use Prim.Native.Nat.{ℕ, ◌≤◌}
use native.Mathlib.Omega.{arith}
use lib.Dec.{eqb}
use lib.ListN.{length, length-replicate}
use borrow.Author.Tests.{ltb-false, not-false}
use Rattle.lists.specs.Sum.{sum_of, is_it}
use Rattle.lists.specs.Tests.{all_of}
use Rattle.lists.specs.Flat.{flat}
use Rattle.lists.proofs.Sums.{sum-none, sum_ones}
use Rattle.options.specs.declared.Options.{Options}
use Rattle.options.specs.Device.{is_machine}
use Rattle.call.specs.declared.Call.TheVariants.{Load}
use Rattle.call.specs.Refusal.{first}
use Rattle.call.proofs.Refusals.{none_hold}
use Rattle.table.specs.declared.Seat.{Seat}
use Rattle.table.specs.declared.Shoe.{Shoe}
use Rattle.table.specs.declared.Table.{Table}
use Rattle.table.specs.Seat.{missing_seat, seat_cards}
use Rattle.table.specs.Shoe.{valid_order, new_shoe, is_fresh, burns_first}
use Rattle.table.specs.Progress.{any_drew, any_decided}
use Rattle.table.specs.Table.{with_shoe, seat_at, is_dealt, bank_cards}
use Rattle.table.specs.Broken.{broken}
use Rattle.table.specs.Faces.{out_cards}
use Rattle.table.specs.Shape.{Shaped}
use Rattle.table.specs.Aids.Sound.{Sound}
use Rattle.table.proofs.Facts.{decks_416, unbroken}
use Rattle.table.proofs.SeatChange.{sum_out}
use Rattle.history.specs.Entry.{Entry}
use Rattle.history.specs.Aids.MakeEntry.{entry}
use Rattle.history.specs.Cards.{cards_after, cards_of_history}
use Rattle.agreement.specs.Aids.Agrees.{Good}
use Rattle.agreement.proofs.Quiet.{house-seat}
use Rattle.cashier_spec.specs.Load.{load_conditions, load_effect}
use Rattle.cashier_spec.proofs.BetweenRounds.{no_hand}
use Rattle.cashier_spec.proofs.Order.{valid_length, loaded, loaded_length}

-- what an accepted load says
pub record LoadAccepted (t : Table) (order : List ℕ) : Type 0 where
  pub unbroken : broken t ≡ false
  pub valid : valid_order t.options.decks order ≡ true
  pub between : is_dealt t ≡ false

pub load-accepted : (t : Table) (order : List ℕ) → first (load_conditions t order) ≡ 0 → LoadAccepted t order
unfolding load_conditions all_of
load-accepted t order e =
    let (unbroken, (valid, (between, _))) = none_hold (load_conditions t order) refl e in
    record { unbroken = unbroken; valid = not-false (valid_order t.options.decks order) valid; between = between }

-- the order has room in the array
pub load_fits : (t : Table) (order : List ℕ) → first (load_conditions t order) ≡ 0 → length order ≤ 416
load_fits t order e =
    let a = load-accepted t order e in
    omega (arith, valid_length t.options.decks order a.valid, decks_416 t (unbroken t a.unbroken))

no_cards_lem : (w : ℕ → ℕ) (s : Seat) → s.hands.many ≡ 0 → sum_of w (seat_cards s) ≡ 0
unfolding sum_of flat
no_cards_lem w s none = rw none refl

no_bank : (w : ℕ → ℕ) (cards : List ℕ) → length cards ≡ 0 → sum_of w cards ≡ 0
unfolding sum_of
no_bank w [] e = refl
no_bank w (c ∷ cs) e = absurd (omega arith)

-- so with no discards no card is out
nothing_out : (t : Table) (order : List ℕ) → Shaped t → Sound t → is_dealt t ≡ false → (w : ℕ → ℕ) → sum_of w (out_cards (with_shoe t (new_shoe t.shoe.begun order))) ≡ 0
unfolding sum_of
nothing_out t order shaped s none w =
    let nine = shaped.nine_seats_lem in
    let hands = sum-none (λ x. sum_of w (seat_cards x)) t.seats missing_seat (λ i l. no_cards_lem w (seat_at t i) (no_hand t i (omega arith) s none)) in
    let bank = no_bank w (bank_cards t) (omega (arith, ltb-false 0 (length (bank_cards t)) none)) in
    omega (arith, sum_out (with_shoe t (new_shoe t.shoe.begun order)) w, hands, bank)

load-sound : (t : Table) (order : List ℕ) → Shaped t → Sound t → is_dealt t ≡ false → valid_order t.options.decks order ≡ true → Sound (with_shoe t (new_shoe t.shoe.begun order))
unfolding sum_of
load-sound t order shaped s none v =
    record {
      options = s.options;
      begun = s.begun;
      begun_drawn = λ some. absurd (omega arith);
      valid = rw (loaded t.options.decks order v t.shoe.begun) v;
      drawn = omega arith;
      discarded = omega arith;
      discarded_drawn = omega arith;
      discards = λ k h. absurd (omega arith);
      faces = λ b h. nothing_out t order shaped s none (is_it b);
      number = sym (sum_ones (out_cards (with_shoe t (new_shoe t.shoe.begun order)))) ∙ nothing_out t order shaped s none (λ x. 1);
      seats = s.seats;
      bank = s.bank;
      round = s.round;
      money = s.money;
      cover = s.cover;
    }

load_shaped : (t : Table) (order : List ℕ) → Shaped t → Sound t → valid_order t.options.decks order ≡ true → Shaped (with_shoe t (new_shoe t.shoe.begun order))
load_shaped t order shaped s v =
    record {
      nine_seats_lem = shaped.nine_seats_lem;
      seats = shaped.seats;
      bank = shaped.bank;
      order = loaded_length t.options.decks order v t.shoe.begun (decks_416 t s);
      discards = length-replicate {A = ℕ} 416 0;
    }

pub load_kept : (t : Table) (order : List ℕ) → Shaped t → Sound t → first (load_conditions t order) ≡ 0 → Shaped (load_effect t order) × Sound (load_effect t order)
unfolding load_effect
load_kept t order shaped sound e =
    let a = load-accepted t order e in
    (load_shaped t order shaped sound a.valid, load-sound t order shaped sound a.between a.valid)

-- with the machine which burn the next deal takes stays; else it is the first again
load_fresh : (o : Options) (sh : Shoe) (order : List ℕ) (fresh : Bool) → burns_first o sh ≡ fresh → burns_first o (new_shoe sh.begun order) ≡ cond (is_machine o) fresh true
unfolding burns_first
load_fresh o sh order fresh = go (is_machine o)
  where
    go : (b : Bool) → cond b (eqb sh.begun 0) (is_fresh sh) ≡ fresh → cond b (eqb sh.begun 0) true ≡ cond b fresh true
    go true e = e
    go false e = refl

pub load_good : (opening : List ℕ) (es : List Entry) (t : Table) (order : List ℕ) → Good opening es t → first (load_conditions t order) ≡ 0
    → Good opening (entry Load order ∷ es) (load_effect t order)
unfolding load_effect cards_after any_drew any_decided
load_good opening es t order g e =
    let (shaped, sound) = load_kept t order g.shaped g.sound e in
    let a = g.agrees in
    record {
      shaped = shaped;
      sound = sound;
      agrees =
          record {
            cards =
                record {
                  order = loaded t.options.decks order (load-accepted t order e).valid t.shoe.begun;
                  taken = refl;
                  fresh = load_fresh t.options t.shoe order (cards_of_history t.options opening es).fresh a.cards.fresh;
                  bank = a.cards.bank;
                };
            dealt = a.dealt;
            seats = λ i. house-seat t.options opening es i (entry Load order) refl (seat_at t i) (a.seats i);
            drew = a.drew;
            decided = a.decided;
            balance = omega (arith, a.balance);
          };
    }
