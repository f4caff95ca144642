-- A load and an opening take the exchanged order as they take the order, since it is as valid, and leave two tables that differ in two places of the order alone.
use mathlib.Core.Path.{◌≡◌, refl, sym, ◌∙◌, ap, subst}
use mathlib.Core.Bool.{Bool, true, false}
use mathlib.Core.List.{List, [], ◌∷◌}
use Prim.Native.Nat.{ℕ, ◌≤◌, ◌<◌}
use native.Mathlib.Omega.{arith}
use lib.Dec.{eqb}
use lib.ListN.{length, replicate}
use borrow.Author.Tests.{eqb-true, not-false}
use Rattle.lists.specs.Tests.{all_of}
use Rattle.call.specs.declared.Call.TheVariants.{Load}
use Rattle.call.specs.Refusal.{first}
use Rattle.call.proofs.Refusals.{none_hold}
use Rattle.cards.specs.Hand.{empty_hand}
use Rattle.options.specs.declared.Options.{Options}
use Rattle.options.specs.Device.{is_box}
use Rattle.options.specs.Ranges.{in_range}
use Rattle.options.proofs.Facts.{in_range_facts}
use Rattle.table.specs.declared.Table.{Table}
use Rattle.table.specs.Shoe.{valid_order}
use Rattle.table.specs.Table.{is_dealt, with_shoe}
use Rattle.table.specs.Broken.{broken}
use Rattle.table.proofs.Facts.{unbroken, sound_options}
use Rattle.history.specs.Entry.{Entry}
use Rattle.cashier_spec.specs.Load.{load_conditions, load_effect}
use Rattle.cashier_spec.specs.Opening.{open_conditions, open_table, empty_table, open_number, opened}
use Rattle.cashier_spec.proofs.Opening.{accepted_table}
use Rattle.engine.specs.Step.{number, next}
use Rattle.engine.specs.Run.{run}
use Rattle.engine.proofs.BrokenTable.{broken-one, empty-broken}
use Rattle.books.specs.Laws.{Whole}
use Rattle.books.proofs.Keeps.{keeps}
use Rattle.secret.specs.Secret.{exchanged}
use Rattle.secret.proofs.Kept.{opens_whole}
use Rattle.secret.proofs.Exchange.{valid_long, exchanged_shoe, exchanged_valid}
use Rattle.secret.proofs.Veil.{same-bank}
use Rattle.secret.proofs.Accepted.{load-accepted}
use Rattle.secret.proofs.Steps.{number-first, accepted-next, refused-next}
use Rattle.secret.proofs.Before.{Before}

-- The opening was accepted where a load is: on the empty table, which is broken, every call is refused with 1.
broken-run : (t : Table) (es : List Entry) → broken t ≡ true → run t es ≡ t
unfolding run
broken-run t [] bad = refl
broken-run t (e ∷ es) bad =
    let one : number t e.call e.order ≡ 1 = broken-one t bad e.call e.order in
    let refused : next t e.call e.order ≡ t = refused-next t e.call e.order (ap (λ (n : ℕ). eqb n 0) one) in
    ap (λ (x : Table). run x es) refused ∙ broken-run t es bad

pub opening-accepted : (o : Options) (opening : List ℕ) (earlier : List Entry) (order : List ℕ) → number (run (opened o opening) earlier) Load order ≡ 0 → open_number o opening ≡ 0
unfolding opened
opening-accepted o opening earlier order zero = go (eqb (open_number o opening) 0) refl
  where
    go : (b : Bool) → eqb (open_number o opening) 0 ≡ b → open_number o opening ≡ 0
    go true e = eqb-true _ _ e
    go false e =
        let empty : opened o opening ≡ empty_table = rw e in
        let one : number (run (opened o opening) earlier) Load order ≡ 1 = rw (empty, broken-run empty_table earlier empty-broken) (broken-one empty_table empty-broken Load order) in
        absurd (omega (arith, one, zero))

module _ (p q : ℕ) (less : p < q) (small : q < 52) where
  -- the two places lie in a valid order, and it stays valid
  within : (decks : ℕ) (order : List ℕ) → 1 ≤ decks → valid_order decks order ≡ true → q < length order
  within decks order some valid = omega (arith, valid_long decks order valid)

  still-valid : (decks : ℕ) (order : List ℕ) → 1 ≤ decks → valid_order decks order ≡ true → valid_order decks (exchanged p q order) ≡ true
  still-valid decks order some valid =
      let inside = within decks order some valid in
      exchanged_valid p q order (omega (arith, inside)) inside (λ e. omega (arith, e)) decks valid

  module _ (t : Table) (order : List ℕ) (whole : Whole t) (loads : number t Load order ≡ 0) where
    some-decks : 1 ≤ t.options.decks
    some-decks = (sound_options t (unbroken t whole.sound)).decks_least

    load-tests : (valid_order t.options.decks order ≡ true) × (is_dealt t ≡ false)
    load-tests = load-accepted t order (sym (number-first t Load order) ∙ loads)

    pub other_loads : number t Load (exchanged p q order) ≡ 0
    unfolding load_conditions first
    other_loads =
        number-first t Load (exchanged p q order)
        ∙ simp (whole.sound, still-valid t.options.decks order some-decks load-tests.0, load-tests.1)

    pub load-before : is_box t.options ≡ true → Before p q (next t Load order) (next t Load (exchanged p q order))
    unfolding load_effect
    load-before box =
        let inside : q < length order = within t.options.decks order some-decks load-tests.0 in
        rw (accepted-next t Load order loads, accepted-next t Load (exchanged p q order) other_loads)
        (record {
          veiled = record { bank = t.bank; discards = replicate 416 0; is = ap (with_shoe t) (exchanged_shoe p q order (omega (arith, inside)) inside t.shoe.begun); banks = same-bank t.bank };
          whole = keeps t Load order whole loads;
          other_whole = keeps t Load (exchanged p q order) whole other_loads;
          box = box;
          undealt = load-tests.1;
        })

  module _ (o : Options) (order : List ℕ) (opens : open_number o order ≡ 0) where
    open_tests : (in_range o ≡ true) × (valid_order o.decks order ≡ true)
    unfolding open_number open_conditions all_of
    open_tests =
        let none = none_hold (open_conditions o order) refl opens in
        (not-false _ none.0, not-false _ none.1.0)

    decks-open : 1 ≤ o.decks
    decks-open = (in_range_facts o open_tests.0).decks_least

    pub other_opens : open_number o (exchanged p q order) ≡ 0
    unfolding open_number open_conditions first
    other_opens = simp (open_tests.0, still-valid o.decks order decks-open open_tests.1)

    pub open_before : is_box o ≡ true → Before p q (opened o order) (opened o (exchanged p q order))
    open_before box =
        let inside : q < length order = within o.decks order decks-open open_tests.1 in
        let here = accepted_table o order opens in
        let other = accepted_table o (exchanged p q order) other_opens in
        rw (here, other)
        (record {
          veiled = record { bank = empty_hand; discards = replicate 416 0; is = ap (with_shoe (open_table o order)) (exchanged_shoe p q order (omega (arith, inside)) inside 0); banks = same-bank empty_hand };
          whole = subst Whole here (opens_whole o order opens);
          other_whole = subst Whole other (opens_whole o (exchanged p q order) other_opens);
          box = box;
          undealt = refl;
        })
