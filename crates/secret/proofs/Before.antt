-- Between the load and its deal the two tables differ in two places of the order alone. No call there reads the order but a deal and a load, which are refused.
use mathlib.Core.Path.{◌≡◌, sym, ◌∙◌, ap}
use mathlib.Core.Bool.{Bool, true, false, not, ◌&&◌, ◌||◌, true≢false, and-eq-true_iff}
use mathlib.Core.List.{List, [], ◌∷◌}
use Prim.Native.Nat.{ℕ}
use native.Mathlib.Omega.{arith}
use lib.Dec.{ltb, eqb}
use borrow.Author.Tests.{eq-eqb}
use Rattle.call.specs.declared.Call.{Call}
use Rattle.call.specs.declared.Call.TheVariants.{Deal, Load, Close}
use Rattle.call.specs.Refusal.{first}
use Rattle.options.specs.Device.{is_box}
use Rattle.table.specs.declared.Table.{Table}
use Rattle.table.specs.Table.{is_dealt}
use Rattle.history.specs.Entry.{Entry, is_deal, is_load}
use Rattle.close_spec.specs.Close.{close_conditions}
use Rattle.engine.specs.Step.{next}
use Rattle.books.specs.Laws.{Whole}
use Rattle.books.proofs.Steps.{step_options}
use Rattle.secret.specs.Secret.{exchanged, is_accepted, quiet}
use Rattle.secret.proofs.Veil.{Veiled}
use Rattle.secret.proofs.Plain.{is_plain, by_call}
use Rattle.secret.proofs.Steps.{number-first, Follows, follows}
use Rattle.secret.proofs.Alike.{deal_number, load_number, plain_follows}
use Rattle.secret.proofs.Plays.{Plays, plays-none, plays_more}

pub record Before (p q : ℕ) (t u : Table) : Type 0 where
  pub veiled : Veiled (exchanged p q t.shoe.order) t u
  pub whole : Whole t
  pub other_whole : Whole u
  pub box : is_box t.options ≡ true
  pub undealt : is_dealt t ≡ false

-- a close is refused with 5
idle_close : (t : Table) → Whole t → is_dealt t ≡ false → first (close_conditions t) ≡ 5
unfolding close_conditions first
idle_close t whole undealt = simp (whole.sound, undealt)

module _ (p q : ℕ) where
  -- A call that is no accepted deal or load.
  abbrev Quiet : Table → Call → List ℕ → Type 0
  Quiet t c lent = let e : Entry = record { call = c; order = lent } in not (is_accepted t e && (is_load e || is_deal e)) ≡ true

  module _ (t u : Table) (b : Before p q t u) where
    undealt-too : is_dealt u ≡ false
    undealt-too = ap is_dealt b.veiled.is ∙ ap (ltb 0) b.veiled.banks.many ∙ b.undealt

    before-step : (c : Call) (lent : List ℕ) → Quiet t c lent → Follows (Before p q) t u c lent
    before-step = by_call (λ c. (lent : List ℕ) → Quiet t c lent → Follows (Before p q) t u c lent) deal load close plain
      where
        order : List ℕ
        order = exchanged p q t.shoe.order

        heard : (n : ℕ) → not (eqb n 0 && true) ≡ true → n ≡ 0 → ⊥
        heard n none zero = true≢false (sym none ∙ ap (λ (x : Bool). not (x && true)) (eq-eqb n 0 zero))

        deal : (lent : List ℕ) → Quiet t Deal lent → Follows (Before p q) t u Deal lent
        deal lent none = follows (Before p q) t u Deal lent (deal_number t u order b.veiled b.whole b.other_whole) (λ zero. absurd (heard _ none zero)) (λ refused. b)

        load : (lent : List ℕ) → Quiet t Load lent → Follows (Before p q) t u Load lent
        load lent none = follows (Before p q) t u Load lent (load_number t u order b.veiled b.whole b.other_whole lent) (λ zero. absurd (heard _ none zero)) (λ refused. b)

        close : (lent : List ℕ) → Quiet t Close lent → Follows (Before p q) t u Close lent
        close lent none =
            let five = idle_close t b.whole b.undealt in
            follows (Before p q) t u Close lent (idle_close u b.other_whole undealt-too ∙ sym five) (λ zero. absurd (omega (arith, number-first t Close lent, five, zero))) (λ refused. b)

        plain : (c : Call) → is_plain c ≡ true → (lent : List ℕ) → Quiet t c lent → Follows (Before p q) t u c lent
        plain c plainly lent none =
            plain_follows t u order b.veiled b.whole b.other_whole (Before p q) c lent plainly
            (λ zero dealt n least most. absurd (true≢false (sym dealt ∙ b.undealt)))
            (λ zero after whole other_whole.
            record {
              veiled = rw after.order_stays after.veiled;
              whole = whole;
              other_whole = other_whole;
              box = rw (step_options t c lent) b.box;
              undealt = after.idle b.undealt;
            })
            (λ refused. b)

  pub before-plays : (es : List Entry) (t u : Table) → Before p q t u → quiet t es ≡ true → Plays (Before p q) es t u
  unfolding quiet
  before-plays [] t u b none = plays-none (Before p q) t u b
  before-plays (e ∷ es) t u b none =
      let (here, later) = (and-eq-true_iff (not (is_accepted t e && (is_load e || is_deal e))) (quiet (next t e.call e.order) es)).0 none in
      let f = before-step t u b e.call e.order here in
      plays_more (Before p q) e es t u (record { answer = f.answer; after = before-plays es (next t e.call e.order) (next u e.call e.order) f.after later })
