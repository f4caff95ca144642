-- A good table meets every sentence of the claim.
use mathlib.Core.Path.{◌≡◌, refl, sym, ◌∙◌, ap, ap₂}
use mathlib.Core.Bool.{false, not}
use mathlib.Core.List.{List, [], ◌∷◌, ◌++◌, map}
use Prim.Native.Nat.{ℕ, ◌+◌, ◌-◌, ◌≤◌}
use native.Mathlib.Decide.{dec_le}
use native.Mathlib.Omega.{arith}
use lib.ListN.{length, take-append-drop, get_or-eq_default}
use borrow.Author.Tests.{ltb-false}
use Rattle.lists.specs.Sum.{sum_of, is_it}
use Rattle.lists.proofs.Sums.{sum-append}
use Rattle.lists.proofs.Differences.{diff_pos, diff_sub, diff_is}
use Rattle.rules.specs.SeatHand.{Played}
use Rattle.payment.specs.Wager.{wager}
use Rattle.table.specs.declared.Table.{Table}
use Rattle.table.specs.Seat.{missing_seat, hands}
use Rattle.table.specs.Table.{seat_at, hand_cards, bank_cards, is_dealt, table_order, table_shoe, table_drawn, table_discards}
use Rattle.table.specs.Money.{all_money}
use Rattle.table.proofs.Facts.{facts_sound, no_hands, cards_left_lem}
use Rattle.history.specs.Entry.{Entry}
use Rattle.history.specs.Rounds.{is_dealt_round, side_in}
use Rattle.history.specs.Money.{came_in, went_out}
use Rattle.agreement.specs.Aids.Agrees.{Good}
use Rattle.cashier_spec.proofs.BetweenRounds.{no_hand}
use Rattle.books.specs.Books.{Claim}

back : (k : ℕ) → 1 ≤ k → k - 1 + 1 ≡ k
back k h = omega arith

empty_list : (xs : List ℕ) → length xs ≡ 0 → xs ≡ []
empty_list [] e = refl
empty_list (x ∷ xs) e = absurd (omega arith)

module _ (opening : List ℕ) (es : List Entry) (t : Table) (g : Good opening es t) where
  none-dealt : is_dealt_round es ≡ false → is_dealt t ≡ false
  none-dealt e = g.agrees.dealt ∙ e

  no-seat-hands : is_dealt_round es ≡ false → (i : ℕ) → hands (seat_at t i) ≡ []
  no-seat-hands e i = go (dec_le 9 i)
    where
      go : Dec (9 ≤ i) → hands (seat_at t i) ≡ []
      go (yes h) = rw (get_or-eq_default t.seats missing_seat {n = i} (omega (arith, g.shaped.nine_seats_lem))) refl
      go (no h) = no_hands (seat_at t i) (no_hand t i (omega arith) g.sound (none-dealt e))

  -- the order in two: what is drawn and what is left
  halves : (w : ℕ → ℕ) → sum_of w (table_drawn t) + sum_of w (table_shoe t) ≡ sum_of w (table_order t)
  halves w = sym (sum-append w (table_drawn t) (table_shoe t)) ∙ ap (sum_of w) (take-append-drop t.shoe.drawn (table_order t))

  pub claim : Claim t.options opening es t
  claim =
      let a = g.agrees in
      let c = a.cards in
      record {
        balance = diff_is (diff_sub (diff_pos (came_in es)) (diff_pos (went_out es))) (all_money t) (omega (arith, a.balance));
        purse_is = λ i p. ((a.seats i).guests p).purse_is;
        layout_is = λ i p. ((a.seats i).guests p).laid_is;
        stake_is = λ i p. ((a.seats i).guests p).stake_is;
        insurance_is = λ i p. ((a.seats i).guests p).insurance_is;
        sides_are = λ i p k least most. ((a.seats i).guests p).sides_are (k - 1) (omega arith) ∙ ap (side_in es i p) (back k least);
        first_is = λ i. (a.seats i).first_is;
        hands_are = λ i. (a.seats i).hands_are;
        wagers_are = λ i p. ap₂ (λ (S : ℕ) (hs : List Played). map (wager S) hs) ((a.seats i).guests p).stake_is (a.seats i).hands_are;
        bank_is = c.bank;
        drew_is = a.drew;
        decided_is = a.decided;
        hands_outside = λ e i. sym (a.seats i).hands_are ∙ no-seat-hands e i;
        bank_outside = λ e. sym c.bank ∙ empty_list (bank_cards t) (omega (arith, ltb-false 0 (length (bank_cards t)) (none-dealt e)));
        shoe_is = rw (← c.taken, ← c.order) (take-append-drop t.shoe.drawn (table_order t));
        left_is = sym (cards_left_lem t g.shaped.order g.sound);
        faces = λ face h.
            omega (
              arith,
              sum-append (is_it face) (hand_cards t ++ bank_cards t) (table_discards t),
              sum-append (is_it face) (hand_cards t) (bank_cards t),
              g.sound.faces face (omega arith),
              halves (is_it face),
              ap (sum_of (is_it face)) c.order,
            );
        sound = ap not (facts_sound t g.shaped.bank g.sound);
      }
