-- What an accepted draw or double gives its effect, and that effect from what the code has read.
use mathlib.Core.Path.{◌≡◌, refl}
use mathlib.Core.List.{List, [], ◌∷◌, map}
use Prim.Native.Nat.{ℕ, ◌+◌, ◌-◌, ◌*◌, ◌≤◌, ◌<◌}
use native.Mathlib.Omega.{arith}
use lib.ListN.{length, get_or, set}
use Rattle.lists.proofs.Sums.{sum_has}
use Rattle.options.specs.declared.Options.{Options}
use Rattle.rules.specs.declared.seat_hand.SeatHand.{SeatHand}
use Rattle.rules.specs.SeatHand.{Played, played_of}
use Rattle.payment.specs.Prize.{prize, most_prize}
use Rattle.payment.proofs.Bounds.{prize_most}
use Rattle.table.specs.declared.Money.{Money}
use Rattle.table.specs.declared.Seat.{Seat}
use Rattle.table.specs.declared.Table.{Table}
use Rattle.table.specs.Guest.{missing_money}
use Rattle.table.specs.Seat.{make_seat, missing_seat, guest_at, over_guests, purse, stake}
use Rattle.table.specs.Table.{seat_at, guest_of, cards_left}
use Rattle.table.proofs.Facts.{unbroken, decks_416}
use Rattle.table.proofs.Guests.{over_has}
use Rattle.table.proofs.Cover.{tray_covers}
use Rattle.answer.specs.Moved.{make_moved, moved_table}
use Rattle.decisions_spec.specs.Card.{card_ahead, card_money, card_effect}
use Rattle.decisions_spec.specs.Turn.{waiting_place_of, waiting_hand_of}
use Rattle.decisions_spec.proofs.Turn.{TurnAccepted}
use Rattle.call.specs.declared.At.{At}
use Rattle.decisions.specs.declared.turn.HandInTurn.{HandInTurn}
use Rattle.decisions.specs.InTurn.{InTurn}
use Rattle.draw.specs.Aids.Grown.{grown_by, grown_seat}
use Rattle.draw.specs.Aids.Drawable.{one_prize_each, Drawable}

-- the two others of a seat, the money of each so changed
both : (f : Money → Money) (ms : List Money) → length ms ≡ 2 → f (get_or ms 0 missing_money) ∷ f (get_or ms 1 missing_money) ∷ [] ≡ map f ms
both f [] two = absurd (omega arith)
both f (x ∷ []) two = absurd (omega arith)
both f (x ∷ y ∷ []) two = refl
both f (x ∷ y ∷ z ∷ ms) two = absurd (omega arith)

pub others_are : (f : Money → Money) (ms : List Money) {one other : Money} → length ms ≡ 2 → one ≡ f (get_or ms 0 missing_money) → other ≡ f (get_or ms 1 missing_money) → one ∷ other ∷ [] ≡ map f ms
others_are f ms two is_one is-other = rw (is_one, is-other) (both f ms two)

-- the prizes of a hand are at most one for each guest
pub all_most : (o : Options) (h : Played) (s : Seat) → over_guests (λ g. prize o (stake g) h) s ≤ one_prize_each s
all_most o h s = omega (arith, prize_most o (stake (guest_at s 0)) h, prize_most o (stake (guest_at s 1)) h, prize_most o (stake (guest_at s 2)) h)

-- the seat as the code makes it
pub seat_is : (o : Options) (times : ℕ) (s : Seat) (h : SeatHand) (p : ℕ) {seated : Money} {others : List Money} {r : Seat}
    → r ≡ make_seat seated others (record { places = set s.hands.places p h; many = s.hands.many }) s.first
    → seated ≡ card_money o times (played_of h) s.money
    → others ≡ map (card_money o times (played_of h)) s.others
    → r ≡ grown_seat o p s h times
seat_is o times s h p stored is-seated are-others = rw (stored, is-seated, are-others)

pub drawable : (t : Table) (at : At) (h : HandInTurn) (times : ℕ) → h.guest ≡ at → InTurn t h → length t.seats ≡ 9 → TurnAccepted t at.seat → times ≤ 1
    → ((p : ℕ) → p < 3 → times * stake (guest_of t at.seat p) ≤ purse (guest_of t at.seat p)) → 1 ≤ cards_left t → Drawable t h times
drawable t at h times is turn full a few enough left =
    let j = at.seat in
    let act = a.acting in
    let sound = unbroken t act.unbroken in
    let covers = tray_covers t full sound act.dealt j act.nine in
    let within = sum_has (over_guests purse) t.seats j missing_seat (omega (arith, act.nine)) in
    record {
      turn = turn;
      guests = rw is (λ p inside. record {
        few = few;
        purse_has = enough p inside;
        purse_fits = omega (arith, sound.money, within, covers, over_has purse (seat_at t j) p inside, over_has (λ g. most_prize (stake g)) (seat_at t j) p inside);
      });
      tray_has = rw is covers;
      tray_fits = omega (arith, sound.money);
      card_left = omega (arith, decks_416 t sound);
    }

module _ (t : Table) (j times : ℕ) where
  pub next_is : (code hand : ℕ) {u : Table} {p ahead won : ℕ} {s seat : Seat} {h waiting : SeatHand}
      → u ≡ t
      → seat ≡ grown_seat u.options p s h times
      → won ≡ over_guests (λ g. prize u.options (stake g) (played_of h)) s
      → h ≡ grown_by waiting ahead code
      → ahead ≡ card_ahead u 0
      → p ≡ waiting_place_of t j
      → waiting ≡ waiting_hand_of t j
      → s ≡ seat_at t j
      → moved_table t j (make_moved (u.tray - won) seat (u.shoe.drawn + 1) hand) ≡ card_effect times code t j
  unfolding card_effect
  next_is code hand read grows pays grew next place waits same = rw (grows, pays, grew, next, place, waits, same, read)
