-- No effect but those of deal, load and close puts a card in sight that nobody saw, but for the cards that draw, double and split take: where these are the same, two tables
-- that differ in cards that nobody sees still do so after the call.
use mathlib.Core.Path.{◌≡◌, refl, sym, ◌∙◌, ap}
use mathlib.Core.Bool.{true, false, true≢false}
use mathlib.Core.List.{List}
use Prim.Native.Nat.{ℕ, ◌+◌, ◌≤◌, ◌<◌}
use native.Mathlib.Nat.{le_refl}
use native.Mathlib.Omega.{arith}
use lib.ListN.{get_or}
use borrow.Author.Tests.{ne_eqb}
use Rattle.call.specs.declared.Call.{Call}
use Rattle.call.specs.declared.Call.TheVariants.{Fill, Credit, Buy, Cash, Stake, Deal, Insure, Stand, Draw, Double, Split, Surrender, Even, Five, Close, Void, Load, Side}
use Rattle.call.specs.Refusal.{first}
use Rattle.cards.specs.declared.hand.Hand.{Hand}
use Rattle.cards.specs.Hand.{empty_hand}
use Rattle.table.specs.declared.Table.{Table}
use Rattle.table.specs.Table.{is_dealt}
use Rattle.cashier_spec.specs.Fill.{fill_effect}
use Rattle.cashier_spec.specs.Credit.{credit_effect}
use Rattle.cashier_spec.specs.Buy.{buy_effect}
use Rattle.cashier_spec.specs.Cash.{cash_effect}
use Rattle.cashier_spec.specs.Side.{side_effect}
use Rattle.cashier_spec.specs.Stake.{stake_effect}
use Rattle.close_spec.specs.Void.{void_effect}
use Rattle.decisions_spec.specs.Card.{card_effect, card_ahead}
use Rattle.decisions_spec.specs.Insure.{insure_effect}
use Rattle.decisions_spec.specs.Surrender.{surrender_effect}
use Rattle.decisions_spec.specs.Turn.{end_effect}
use Rattle.decisions_spec.specs.Draw.{draw_conditions}
use Rattle.decisions_spec.specs.Double.{double_conditions}
use Rattle.decisions_spec.specs.Split.{split_conditions, split_effect}
use Rattle.engine.specs.Step.{conditions, effect, shown}
use Rattle.secret.proofs.Veil.{veil, BanksAlike, same-bank, Veiled}
use Rattle.secret.proofs.Plain.{is_plain}
use Rattle.secret.proofs.Accepted.{turn-dealt}

module _ (t : Table) (order : List ℕ) where
  -- What is said of an accepted call, `after` and `other` being the two tables that it leaves.
  pub record Carried (after other : Table) : Type 0 where
    pub veiled : Veiled order after other
    -- the order stays, and no card goes back to it
    pub order_stays : after.shoe.order ≡ t.shoe.order
    pub least : t.shoe.drawn ≤ after.shoe.drawn
    -- it deals no round
    pub idle : is_dealt t ≡ false → is_dealt after ≡ false

  -- The cards that a call draws in a dealt round are the same.
  abbrev pub DrawsSame : Table → Type 0
  DrawsSame after = is_dealt t ≡ true → (n : ℕ) → t.shoe.drawn ≤ n → n < after.shoe.drawn → get_or order n 0 ≡ get_or t.shoe.order n 0

module _ (t : Table) (bank : Hand) (order discards : List ℕ) (alike : BanksAlike t.bank bank) where
  abbrev u : Table
  u = veil bank order discards t

  -- a call that leaves bank and shoe
  stays : (after other : Table) → other ≡ veil bank order discards after → after.shoe ≡ t.shoe → after.bank ≡ t.bank → Carried t order after other
  stays after other e shoe banks =
      record {
        veiled = record { bank = bank; discards = discards; is = e; banks = rw banks alike };
        order_stays = ap (λ sh. sh.order) shoe;
        least = rw shoe (le_refl t.shoe.drawn);
        idle = λ none. rw banks none;
      }

  -- a call that draws n cards in a dealt round
  drawing : (after other : Table) (n : ℕ) → other ≡ veil bank order discards after → after.shoe.order ≡ t.shoe.order → after.shoe.drawn ≡ t.shoe.drawn + n → after.bank ≡ t.bank → is_dealt t ≡ true
      → Carried t order after other
  drawing after other n e orders many banks dealt =
      record {
        veiled = record { bank = bank; discards = discards; is = e; banks = rw banks alike };
        order_stays = orders;
        least = omega (arith, many);
        idle = λ none. absurd (true≢false (sym dealt ∙ none));
      }

  -- draw and double
  card : (more code j : ℕ) → is_dealt t ≡ true → DrawsSame t order (card_effect more code t j) → Carried t order (card_effect more code t j) (card_effect more code u j)
  unfolding card_effect
  card more code j dealt draws =
      let next : card_ahead u 0 ≡ card_ahead t 0 = draws dealt (t.shoe.drawn + 0) (omega arith) (omega arith) in
      drawing (card_effect more code t j) (card_effect more code u j) 1 (simp (alike.up, next)) refl refl refl dealt

  split : (j : ℕ) → is_dealt t ≡ true → DrawsSame t order (split_effect t j) → Carried t order (split_effect t j) (split_effect u j)
  unfolding split_effect
  split j dealt draws =
      let next : card_ahead u 0 ≡ card_ahead t 0 = draws dealt (t.shoe.drawn + 0) (omega arith) (omega arith) in
      let second : card_ahead u 1 ≡ card_ahead t 1 = draws dealt (t.shoe.drawn + 1) (omega arith) (omega arith) in
      drawing (split_effect t j) (split_effect u j) 2 (simp (alike.up, next, second)) refl refl refl dealt

  pub carried : (c : Call) (lent : List ℕ) → is_plain c ≡ true → first (conditions t c lent) ≡ 0 → DrawsSame t order (effect t c lent) → Carried t order (effect t c lent) (effect u c lent)
  unfolding fill_effect credit_effect buy_effect cash_effect stake_effect side_effect insure_effect end_effect surrender_effect void_effect draw_conditions double_conditions split_conditions
  carried (Fill n) lent plain accepted draws = stays _ _ refl refl refl
  carried (Credit n) lent plain accepted draws = stays _ _ refl refl refl
  carried (Buy at n) lent plain accepted draws = stays _ _ refl refl refl
  carried (Cash at n) lent plain accepted draws = stays _ _ refl refl refl
  carried (Stake at n) lent plain accepted draws = stays _ _ refl refl refl
  carried Deal lent plain accepted draws = absurd (true≢false (sym plain))
  carried (Insure at n) lent plain accepted draws = stays _ _ refl refl refl
  carried (Stand at) lent plain accepted draws = stays _ _ (simp alike.up) refl refl
  carried (Draw at) lent plain accepted draws = card _ _ at.seat (turn-dealt t at.seat at.position _ accepted) draws
  carried (Double at) lent plain accepted draws = card _ _ at.seat (turn-dealt t at.seat at.position _ accepted) draws
  carried (Split at) lent plain accepted draws = split at.seat (turn-dealt t at.seat at.position _ accepted) draws
  carried (Surrender at) lent plain accepted draws = stays _ _ refl refl refl
  carried (Even at) lent plain accepted draws = stays _ _ (simp alike.up) refl refl
  carried (Five at) lent plain accepted draws = stays _ _ (simp alike.up) refl refl
  carried Close lent plain accepted draws = absurd (true≢false (sym plain))
  carried Void lent plain accepted draws =
      record {
        veiled = record { bank = empty_hand; discards = (effect u Void lent).shoe.discards; is = refl; banks = same-bank empty_hand };
        order_stays = refl;
        least = le_refl t.shoe.drawn;
        idle = λ none. refl;
      }
  carried Load lent plain accepted draws = absurd (true≢false (sym plain))
  carried (Side at k n) lent plain accepted draws = stays _ _ refl refl refl

  -- the scores that it shows are those of hands
  pub shown-same : (c : Call) → is_plain c ≡ true → (other-bank : Hand) (other-order other-discards : List ℕ) (after : Table) → shown u c (veil other-bank other-order other-discards after) ≡ shown t c after
  shown-same (Fill n) plain b o d after = refl
  shown-same (Credit n) plain b o d after = refl
  shown-same (Buy at n) plain b o d after = refl
  shown-same (Cash at n) plain b o d after = refl
  shown-same (Stake at n) plain b o d after = refl
  shown-same Deal plain b o d after = absurd (true≢false (sym plain))
  shown-same (Insure at n) plain b o d after = refl
  shown-same (Stand at) plain b o d after = refl
  shown-same (Draw at) plain b o d after = simp alike.up
  shown-same (Double at) plain b o d after = simp alike.up
  shown-same (Split at) plain b o d after = simp alike.up
  shown-same (Surrender at) plain b o d after = refl
  shown-same (Even at) plain b o d after = refl
  shown-same (Five at) plain b o d after = refl
  shown-same Close plain b o d after = absurd (true≢false (sym plain))
  shown-same Void plain b o d after = refl
  shown-same Load plain b o d after = absurd (true≢false (sym plain))
  shown-same (Side at k n) plain b o d after = rw (ne_eqb (17 + k) 15 (λ e. omega arith))
