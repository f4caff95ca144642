-- fill and credit change the tray alone, between rounds: a table stays good when the tray changes by what comes onto the table and what leaves it.
use mathlib.Core.Path.{◌≡◌, refl, sym, ◌∙◌}
use mathlib.Core.Bool.{false, cond, ◌||◌, true≢false}
use mathlib.Core.List.{List, ◌∷◌}
use Prim.Native.Nat.{ℕ, ◌+◌, ◌≤◌}
use native.Mathlib.Omega.{arith}
use Rattle.table.specs.declared.Table.{Table}
use Rattle.table.specs.Table.{with_tray, seat_at, is_dealt}
use Rattle.table.specs.Progress.{any_drew, any_decided}
use Rattle.table.specs.Money.{most_money, all_money}
use Rattle.table.specs.Shape.{Shaped}
use Rattle.table.specs.Aids.Sound.{Sound}
use Rattle.history.specs.Entry.{Entry, is_fill, is_credit, is_buy, is_cash, is_load, amount_of}
use Rattle.agreement.specs.Aids.Agrees.{Good}
use Rattle.agreement.proofs.Groups.{InGroup, of_house, not_deal, not_decision, not_end, no_drawing}
use Rattle.agreement.proofs.Quiet.{house-seat, house-cards}

-- what such a call must give: `came` is money that comes onto the table by it, `went` money that leaves it
pub record TrayMoves (t : Table) (tray came went : ℕ) : Type 0 where
  pub between : is_dealt t ≡ false
  pub pays : tray + went ≡ t.tray + came
  pub in_limit : all_money t + came ≤ most_money + went

module _ {t : Table} {tray came went : ℕ} (moves : TrayMoves t tray came went) where
  pub tray_kept : Shaped t → Sound t → Shaped (with_tray t tray) × Sound (with_tray t tray)
  tray_kept shaped sound = (
    record { nine_seats_lem = shaped.nine_seats_lem; seats = shaped.seats; bank = shaped.bank; order = shaped.order; discards = shaped.discards },
    record {
      options = sound.options;
      begun = sound.begun;
      begun_drawn = sound.begun_drawn;
      valid = sound.valid;
      drawn = sound.drawn;
      discarded = sound.discarded;
      discarded_drawn = sound.discarded_drawn;
      discards = sound.discards;
      faces = sound.faces;
      number = sound.number;
      seats = sound.seats;
      bank = sound.bank;
      round = sound.round;
      money = omega (arith, moves.pays, moves.in_limit);
      cover = λ dealt. absurd (true≢false (sym dealt ∙ moves.between));
    },
  )

  -- for a call of the house that takes no card, and whose amount the history adds to what came, or to what went
  pub tray_good : (opening : List ℕ) (es : List Entry) (e : Entry) → InGroup e of_house → is_load e ≡ false
      → cond (is_fill e || is_buy e) (amount_of e) 0 ≡ came
      → cond (is_credit e || is_cash e) (amount_of e) 0 ≡ went
      → Good opening es t
      → Good opening (e ∷ es) (with_tray t tray)
  unfolding any_drew any_decided
  tray_good opening es e among no_load_lem tray-in tray-out g =
      let (shaped, sound) = tray_kept g.shaped g.sound in
      let a = g.agrees in
      record {
        shaped = shaped;
        sound = sound;
        agrees =
            record {
              cards =
                  rw (house-cards t.options opening es e among no_load_lem)
                  (record { order = a.cards.order; taken = a.cards.taken; fresh = a.cards.fresh; bank = a.cards.bank });
              dealt = a.dealt ∙ sym (simp (not_end e among refl, not_deal e among refl));
              seats = λ i. house-seat t.options opening es i e among (seat_at t i) (a.seats i);
              drew = a.drew ∙ sym (simp (not_end e among refl, no_drawing e (not_decision e among refl)));
              decided = a.decided ∙ sym (simp (not_end e among refl, not_decision e among refl));
              balance = omega (arith, a.balance, moves.pays, tray-in, tray-out);
            };
      }
