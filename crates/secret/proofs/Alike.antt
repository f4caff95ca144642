-- One call, not close, on two whole tables that differ in cards that nobody sees: its number is the same, and, unless it is a deal or a load, so is all that it shows.
use mathlib.Core.Path.{◌≡◌, sym, ◌∙◌, ap}
use mathlib.Core.Bool.{true, false}
use mathlib.Core.List.{List}
use Prim.Native.Nat.{ℕ}
use lib.Dec.{eqb}
use borrow.Author.Tests.{not-false}
use Rattle.call.specs.declared.Call.{Call}
use Rattle.call.specs.Refusal.{first}
use Rattle.table.specs.declared.Table.{Table}
use Rattle.table.specs.Broken.{sound}
use Rattle.deal_spec.specs.Deal.{deal_conditions}
use Rattle.cashier_spec.specs.Load.{load_conditions}
use Rattle.engine.specs.Step.{conditions, effect, shown, number}
use Rattle.books.specs.Laws.{Whole}
use Rattle.books.proofs.Keeps.{keeps}
use Rattle.secret.proofs.Veil.{veil, Veiled}
use Rattle.secret.proofs.Plain.{is_plain}
use Rattle.secret.proofs.Steps.{number-first, Follows, follows}
use Rattle.secret.proofs.Numbers.{conditions-same, deal_conditions-same, load_conditions-same}
use Rattle.secret.proofs.Effects.{Carried, DrawsSame, carried, shown-same}

module _ (t u : Table) (order : List ℕ) (v : Veiled order t u) (whole : Whole t) (other_whole : Whole u) where
  sound-same : sound (veil v.bank order v.discards t) ≡ sound t
  sound-same = sym (ap sound v.is) ∙ not-false (sound u) other_whole.sound ∙ sym (not-false (sound t) whole.sound)

  pub deal_number : first (deal_conditions u) ≡ first (deal_conditions t)
  deal_number = ap (λ (x : Table). first (deal_conditions x)) v.is ∙ ap first (deal_conditions-same t v.bank order v.discards v.banks sound-same)

  pub load_number : (lent : List ℕ) → first (load_conditions u lent) ≡ first (load_conditions t lent)
  load_number lent = ap (λ (x : Table). first (load_conditions x lent)) v.is ∙ ap first (load_conditions-same t v.bank order v.discards v.banks sound-same lent)

  module _ (R : Table → Table → Type 0) (c : Call) (lent : List ℕ) where
    pub plain_follows : is_plain c ≡ true → (number t c lent ≡ 0 → DrawsSame t order (effect t c lent))
        → (number t c lent ≡ 0 → Carried t order (effect t c lent) (effect u c lent) → Whole (effect t c lent) → Whole (effect u c lent) → R (effect t c lent) (effect u c lent))
        → (eqb (number t c lent) 0 ≡ false → R t u) → Follows R t u c lent
    plain_follows plain draws accepted refused = follows R t u c lent same_number both refused
      where
        same_number : first (conditions u c lent) ≡ first (conditions t c lent)
        same_number = ap (λ (x : Table). first (conditions x c lent)) v.is ∙ ap first (conditions-same t v.bank order v.discards v.banks sound-same c lent plain)

        after : number t c lent ≡ 0 → Carried t order (effect t c lent) (effect u c lent)
        after zero = rw v.is (carried t v.bank order v.discards v.banks c lent plain (sym (number-first t c lent) ∙ zero) (draws zero))

        shows : Carried t order (effect t c lent) (effect u c lent) → shown u c (effect u c lent) ≡ shown t c (effect t c lent)
        shows after =
            ap (shown u c) after.veiled.is
            ∙ ap (λ (x : Table). shown x c (veil after.veiled.bank order after.veiled.discards (effect t c lent))) v.is
            ∙ shown-same t v.bank order v.discards v.banks c plain after.veiled.bank order after.veiled.discards (effect t c lent)

        both : number t c lent ≡ 0 → (R (effect t c lent) (effect u c lent)) × (shown u c (effect u c lent) ≡ shown t c (effect t c lent))
        both zero =
            let other-zero : number u c lent ≡ 0 = number-first u c lent ∙ same_number ∙ sym (number-first t c lent) ∙ zero in
            (accepted zero (after zero) (keeps t c lent whole zero) (keeps u c lent other_whole other-zero), shows (after zero))
