-- The early numbers from the code's tests, what they say of the whole list of close's conditions, and what an accepted close knows.
use mathlib.Core.Path.{◌≡◌, refl, sym, ◌∙◌, ap}
use mathlib.Core.Bool.{Bool, true, false, cond, not}
use Prim.Native.Nat.{ℕ}
use lib.Dec.{ltb, eqb}
use lib.ListN.{length}
use borrow.Author.Tests.{ne_eqb}
use Rattle.call.specs.Refusal.{asked, first}
use Rattle.cards.specs.declared.hand.Hand.{Hand}
use Rattle.cards.specs.Hand.{cards_of}
use Rattle.payment.specs.Bank.{must_draw}
use Rattle.table.specs.declared.Table.{Table}
use Rattle.table.specs.Table.{is_dealt}
use Rattle.table.specs.Broken.{broken}
use Rattle.state.specs.Turn.{seat_in_turn}
use Rattle.state.proofs.turn.Hands.{waits_below}
use Rattle.close_spec.specs.BankDraw.{bank_at_close}
use Rattle.close_spec.specs.Close.{close_conditions}
use Rattle.close_spec.proofs.Close.{close-accepted}
use Rattle.close.specs.Aids.Closes.{Closes}

-- the numbers before 18: they answer, or 18 does
early_then : (idle waits : Bool) (last : ℕ) → asked 5 idle (asked 7 waits last) ≡ cond (eqb (asked 5 idle (asked 7 waits 0)) 0) last (asked 5 idle (asked 7 waits 0))
early_then true waits last = refl
early_then false true last = refl
early_then false false last = refl

-- the code's tests, asked in the order of the list
pub early_asked : (t : Table) → length t.seats ≡ 9 → broken t ≡ false → {n turn : ℕ} {dealt : Bool} → dealt ≡ is_dealt t → turn ≡ seat_in_turn t
    → n ≡ asked 5 (not dealt) (asked 7 (ltb turn 9) 0) → first (close_conditions t) ≡ cond (eqb n 0) (cond (must_draw (bank_at_close t)) 18 0) n
unfolding close_conditions first
early_asked t nine whole {n} {turn} {dealt} is-dealt in_turn_lem number =
    rw (number, whole, ← is-dealt, waits_below t nine turn in_turn_lem) (early_then (not dealt) (ltb turn 9) (cond (must_draw (bank_at_close t)) 18 0))

module _ (t : Table) (n : ℕ) (says : first (close_conditions t) ≡ cond (eqb n 0) (cond (must_draw (bank_at_close t)) 18 0) n) where
  pub early_refused : (n ≡ 0 → ⊥) → n ≡ first (close_conditions t)
  early_refused some = sym (says ∙ rw (ne_eqb n 0 some))

  module _ (none : n ≡ 0) (bank : Hand) (cards : cards_of bank ≡ bank_at_close t) (draws : Bool) (drawn : draws ≡ must_draw (cards_of bank)) where
    must : must_draw (bank_at_close t) ≡ draws
    must = ap must_draw (sym cards) ∙ sym drawn

    late : first (close_conditions t) ≡ cond draws 18 0
    late = says ∙ rw (none, must)

    pub last_refused : draws ≡ true → 18 ≡ first (close_conditions t)
    last_refused e = sym (late ∙ rw e)

    pub all_accepted : draws ≡ false → first (close_conditions t) ≡ 0
    all_accepted e = late ∙ rw e

    pub closes : draws ≡ false → Closes t bank
    closes e = let ok = close-accepted t (all_accepted e) in record { sound = ok.sound; dealt = ok.dealt; cards = cards; stands = ok.stands }
