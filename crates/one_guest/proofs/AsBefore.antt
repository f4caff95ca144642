-- A seat with one seated guest answers as before: number, effect and what is shown are those of the rules for one guest.
use mathlib.Core.Path.{◌≡◌, refl, ◌∙◌, ap, ap₂}
use mathlib.Core.Bool.{Bool, true, false, cond}
use mathlib.Core.List.{List, [], ◌∷◌, append-nil}
use Prim.Native.Nat.{ℕ, suc, ◌<◌}
use native.Mathlib.Omega.{arith}
use lib.Dec.{eqb}
use lib.ListN.{length, get_or, replicate}
use Rattle.call.specs.Call.{kind}
use Rattle.call.specs.Refusal.{Condition, first}
use Rattle.call.specs.Answer.{Shown, scored}
use Rattle.options.specs.declared.Options.{Options}
use Rattle.payment.specs.declared.bank.Score.{Score}
use Rattle.table.specs.declared.Seat.{Seat}
use Rattle.table.specs.declared.Table.{Table}
use Rattle.table.specs.Guest.{holding}
use Rattle.table.specs.Seat.{missing_seat}
use Rattle.table.proofs.Guests.{guest-seated}
use Rattle.answer.specs.Reply.{reply_by}
use Rattle.close_spec.specs.PayLines.{guest_lines, seat_lines, all_lines}
use Rattle.close_spec.specs.Close.{close_score, close_shown}
use Rattle.engine.specs.Scores.{hand_scores}
use Rattle.engine.specs.Step.{conditions, effect, step, next}
use Rattle.one_guest.specs.Money.{lines_one}
use Rattle.one_guest.specs.Conditions.{conditions_one}
use Rattle.one_guest.specs.Effects.{close_shown_one}
use Rattle.one_guest.specs.AsBefore.{OnlySeated, step_one, SeatedAsBefore}
use Rattle.one_guest.proofs.Alone.{one, other}
use Rattle.one_guest.proofs.Numbers.{same_number}
use Rattle.one_guest.proofs.Effects.{same_effect}
use Rattle.one_guest.proofs.Others.{others, effect-others, still_only}

-- the lines are those of the seated guests: the others have staked nothing
lines_one_lem : (o : Options) (bank : Score) (i : ℕ) (seats : List Seat) → ((k : ℕ) → k < length seats → (get_or seats k missing_seat).others ≡ replicate 2 (holding 0)) → all_lines o bank i seats ≡ lines_one o bank i seats
unfolding all_lines lines_one seat_lines guest_lines
lines_one_lem o bank i [] alone = refl
lines_one_lem o bank i (s ∷ ss) alone =
    rw (lines_one_lem o bank (suc i) ss (λ k h. alone (suc k) (omega arith)))
    (rw (guest-seated s, one s (alone 0 (omega arith)), other s (alone 0 (omega arith))) (simp append-nil))

close_shown_one_lem : (t : Table) → OnlySeated t → close_shown t ≡ close_shown_one t
unfolding close_shown close_shown_one
close_shown_one_lem t only = rw (lines_one_lem t.options (close_score t) 0 t.seats only)

-- a reply by the same number, what is shown and effect
reply_same : (cs ds : List Condition) (x y : Shown) (e f t : Table) → first cs ≡ first ds → x ≡ y → e ≡ f → reply_by cs x e t ≡ reply_by ds y f t
unfolding reply_by
reply_same cs ds x y e f t number shows effects = rw (number, shows, effects)

pub as_before : SeatedAsBefore
unfolding step_one step next reply_by
as_before t c order seated only =
    let number = same_number t only c order seated in
    let effects = same_effect t only c order seated in
    record {
      same_step = reply_same (conditions t c order) (conditions_one t c order) _ _ _ _ t number (ap₂ (λ (x : Shown) (y : Table). cond (eqb (kind c) 15) x (scored (hand_scores t c y))) (close_shown_one_lem t only) effects) effects;
      only_seated = go (eqb (first (conditions t c order)) 0);
    }
  where
    go : (b : Bool) → OnlySeated (cond b (effect t c order) t)
    go true = still_only t (effect t c order) only (ap (λ (x : Table). others x.seats) (same_effect t only c order seated) ∙ effect-others t c order)
    go false = only
