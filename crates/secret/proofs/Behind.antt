-- Behind the deal the two tables differ in the bank's hidden card, in drawn cards and in place q of the order, which nobody draws. A second deal waits for a load; an accepted load
-- makes the tables equal; no other call but close reads those cards.
use mathlib.Core.Path.{◌≡◌, refl, sym, ◌∙◌, ap, subst}
use mathlib.Core.Bool.{Bool, true, false, not, ◌&&◌, ◌||◌, true≢false, and-eq-true_iff, and-false}
use mathlib.Core.List.{List, [], ◌∷◌}
use Prim.Native.Nat.{ℕ, ◌≤◌, ◌<◌}
use native.Mathlib.Omega.{arith}
use lib.Dec.{leb, eqb}
use lib.ListN.{length, get_or}
use borrow.Author.Tests.{leb-true}
use Rattle.lists.specs.Tests.{all_of}
use Rattle.lists.proofs.Tests.{or_other}
use Rattle.call.specs.declared.Call.{Call}
use Rattle.call.specs.declared.Call.TheVariants.{Deal, Load}
use Rattle.call.specs.Call.{kind}
use Rattle.options.specs.Device.{is_box}
use Rattle.cards.specs.declared.hand.Hand.{Hand}
use Rattle.table.specs.declared.Table.{Table}
use Rattle.table.specs.Table.{is_dealt, bank_cards, up}
use Rattle.table.specs.InSight.{InSight}
use Rattle.history.specs.Entry.{Entry, is_close, is_load}
use Rattle.cashier_spec.specs.Load.{load_effect}
use Rattle.display.specs.InSight.{ShowsSame}
use Rattle.display.proofs.InSight.{hidden_unshown}
use Rattle.engine.specs.Step.{effect, number, next}
use Rattle.engine.specs.Run.{run}
use Rattle.books.specs.Laws.{Whole}
use Rattle.books.proofs.Steps.{step_options}
use Rattle.secret.specs.Secret.{is_accepted, undrawn}
use Rattle.secret.proofs.Veil.{veil, Veiled}
use Rattle.secret.proofs.Plain.{is_plain, by_call}
use Rattle.secret.proofs.Accepted.{load-accepted, no_deal, no_load_lem}
use Rattle.secret.proofs.Steps.{number-first, Follows, follows, accepted-next, refused-next}
use Rattle.secret.proofs.Effects.{Carried}
use Rattle.secret.proofs.Alike.{deal_number, load_number, plain_follows}
use Rattle.secret.proofs.Plays.{Plays, plays-none, plays_more}

pub record Behind (q : ℕ) (t u : Table) : Type 0 where
  pub order : List ℕ
  pub veiled : Veiled order t u
  pub whole : Whole t
  pub other_whole : Whole u
  pub box : is_box t.options ≡ true
  -- something is drawn, and what is not is the same but for place q
  pub begun : 0 < t.shoe.drawn
  pub ahead : (n : ℕ) → t.shoe.drawn ≤ n → (n ≡ q → ⊥) → get_or order n 0 ≡ get_or t.shoe.order n 0

-- an accepted load makes two such tables equal
loads_equal : (t u : Table) (order : List ℕ) → Veiled order t u → is_dealt t ≡ false → (lent : List ℕ) → load_effect u lent ≡ load_effect t lent
unfolding load_effect
loads_equal t u order v undealt lent =
    ap (λ (x : Table). load_effect x lent) v.is ∙ ap (λ (bank : Hand). load_effect (veil bank order v.discards t) lent) (v.banks.idle undealt)

-- no more than q cards are drawn
pub undrawn-most : (q : ℕ) (t : Table) (es : List Entry) → undrawn q t es ≡ true → t.shoe.drawn ≤ q
unfolding undrawn
undrawn-most q t [] none = leb-true _ _ none
undrawn-most q t (e ∷ es) none = leb-true _ _ ((and-eq-true_iff (leb t.shoe.drawn q) (is_accepted t e && is_load e || undrawn q (next t e.call e.order) es)).0 none).0

-- what a display reads is the same of equal tables, and of two that are behind the deal
shows_self : (t : Table) → ShowsSame t t
shows_self t = record { table = refl; turn = refl; seat = λ i q. refl; hand = λ i q p. refl }

plays_self : (es : List Entry) (t : Table) → Plays ShowsSame es t t
plays_self es t = record { answers_same = refl; ends = shows_self (run t es) }

module _ (q : ℕ) where
  behind-shows : (t u : Table) → Behind q t u → ShowsSame t u
  behind-shows t u b = hidden_unshown t u sight (b.whole.sound ∙ sym b.other_whole.sound)
    where
      v : Veiled b.order t u
      v = b.veiled

      sight : InSight t u
      sight =
          record {
            options = sym (ap (λ x. x.options) v.is);
            tray = sym (ap (λ x. x.tray) v.is);
            seats = sym (ap (λ x. x.seats) v.is);
            bank = sym (ap (λ x. length (bank_cards x)) v.is ∙ v.banks.many);
            up_card_lem = sym (ap up v.is ∙ v.banks.up);
            drawn = sym (ap (λ x. x.shoe.drawn) v.is);
            discarded = sym (ap (λ x. x.shoe.discarded) v.is);
          }

  module _ (es : List Entry) (rest : (x y : Table) → Behind q x y → undrawn q x es ≡ true → Plays ShowsSame es x y) (t u : Table) (b : Behind q t u) where
    -- The call is an accepted load, or the calls behind it leave place q.
    abbrev loads_here : Call → List ℕ → Bool
    loads_here c lent = eqb (number t c lent) 0 && eqb (kind c) 17

    abbrev Undrawn : Call → List ℕ → Type 0
    Undrawn c lent = loads_here c lent || undrawn q (next t c lent) es ≡ true

    abbrev Here : Call → Type 0
    Here c = (lent : List ℕ) → not (eqb (kind c) 15) ≡ true → Undrawn c lent → Follows (Plays ShowsSame es) t u c lent

    refused-plays : (c : Call) (lent : List ℕ) → Undrawn c lent → eqb (number t c lent) 0 ≡ false → Plays ShowsSame es t u
    refused-plays c lent none refused =
        let later : undrawn q (next t c lent) es ≡ true = or_other (loads_here c lent) (undrawn q (next t c lent) es) none (ap (λ (x : Bool). x && eqb (kind c) 17) refused) in
        rest t u b (subst (λ (x : Table). undrawn q x es ≡ true) (refused-next t c lent refused) later)

    behind-deal : Here Deal
    behind-deal lent goes none =
        follows (Plays ShowsSame es) t u Deal lent (deal_number t u b.order b.veiled b.whole b.other_whole)
        (λ zero. absurd (no_deal t b.box b.begun (sym (number-first t Deal lent) ∙ zero))) (refused-plays Deal lent none)

    behind-load : Here Load
    behind-load lent goes none =
        follows (Plays ShowsSame es) t u Load lent (load_number t u b.order b.veiled b.whole b.other_whole lent)
        (λ zero.
        let equal = loads_equal t u b.order b.veiled (load-accepted t lent (sym (number-first t Load lent) ∙ zero)).1 lent in
        (rw equal (plays_self es (load_effect t lent)), refl))
        (refused-plays Load lent none)

    behind-plain : (c : Call) → is_plain c ≡ true → Here c
    behind-plain c plain lent goes none =
        plain_follows t u b.order b.veiled b.whole b.other_whole (Plays ShowsSame es) c lent plain
        (λ zero dealt n least most. b.ahead n least (λ e. omega (arith, undrawn-most q (effect t c lent) es (later zero), e)))
        (λ zero after whole other_whole. rest (effect t c lent) (effect u c lent) (behind after whole other_whole) (later zero)) (refused-plays c lent none)
      where
        later : number t c lent ≡ 0 → undrawn q (effect t c lent) es ≡ true
        later zero =
            let no = no_load_lem t c lent plain (sym (number-first t c lent) ∙ zero) in
            let on : undrawn q (next t c lent) es ≡ true = or_other (loads_here c lent) (undrawn q (next t c lent) es) none (ap (λ (x : Bool). eqb (number t c lent) 0 && x) no ∙ and-false (eqb (number t c lent) 0)) in
            subst (λ (x : Table). undrawn q x es ≡ true) (accepted-next t c lent zero) on

        behind : Carried t b.order (effect t c lent) (effect u c lent) → Whole (effect t c lent) → Whole (effect u c lent) → Behind q (effect t c lent) (effect u c lent)
        behind after whole other_whole =
            record {
              order = b.order;
              veiled = after.veiled;
              whole = whole;
              other_whole = other_whole;
              box = rw (step_options t c lent) b.box;
              begun = omega (arith, b.begun, after.least);
              ahead = λ n least other. b.ahead n (omega (arith, after.least, least)) other ∙ sym (ap (λ (order : List ℕ). get_or order n 0) after.order_stays);
            }

    behind-step : (c : Call) → Here c
    behind-step = by_call Here behind-deal behind-load (λ lent goes. absurd (true≢false (sym goes))) behind-plain

  pub behind-plays : (es : List Entry) (t u : Table) → Behind q t u → undrawn q t es ≡ true → all_of (λ e. not (is_close e)) es ≡ true → Plays ShowsSame es t u
  unfolding undrawn all_of
  behind-plays [] t u b none goes = plays-none ShowsSame t u (behind-shows t u b)
  behind-plays (e ∷ es) t u b none goes =
      let (here, later) = (and-eq-true_iff (not (is_close e)) (all_of (λ e. not (is_close e)) es)).0 goes in
      let tail = ((and-eq-true_iff (leb t.shoe.drawn q) (is_accepted t e && is_load e || undrawn q (next t e.call e.order) es)).0 none).1 in
      plays_more ShowsSame e es t u (behind-step es (λ x y c n. behind-plays es x y c n later) t u b e.call e.order here tail)
