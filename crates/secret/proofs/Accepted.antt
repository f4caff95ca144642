-- What an accepted call finds on the table: none of its conditions holds.
use mathlib.Core.Path.{◌≡◌, refl, sym, ◌∙◌}
use mathlib.Core.Bool.{true, false, true≢false, and-eq-true_iff}
use mathlib.Core.List.{List, ◌++◌}
use Prim.Native.Nat.{ℕ, ◌+◌, ◌≤◌, ◌<◌}
use native.Mathlib.Omega.{arith}
use lib.Dec.{leb, eqb}
use borrow.Author.Tests.{eqb-true, ne_eqb, leb-true, not-false}
use Rattle.lists.specs.Tests.{all_of}
use Rattle.call.specs.declared.Call.{Call}
use Rattle.call.specs.declared.Call.TheVariants.{Fill, Credit, Buy, Cash, Stake, Deal, Insure, Stand, Draw, Double, Split, Surrender, Even, Five, Close, Void, Load, Side}
use Rattle.call.specs.Call.{kind}
use Rattle.call.specs.Refusal.{Condition, first}
use Rattle.call.proofs.Refusals.{accepted-head, accepted_tail, none_hold}
use Rattle.options.specs.declared.Options.{Options}
use Rattle.options.specs.Device.{is_box}
use Rattle.table.specs.declared.Shoe.{Shoe}
use Rattle.table.specs.declared.Table.{Table}
use Rattle.table.specs.Shoe.{valid_order}
use Rattle.table.specs.Table.{is_dealt}
use Rattle.table.specs.Broken.{broken}
use Rattle.answer.specs.Conditions.{seat_conditions, guest_conditions}
use Rattle.cashier_spec.specs.Load.{load_conditions}
use Rattle.cashier_spec.specs.Side.{is_side_kind, side_conditions}
use Rattle.deal_spec.specs.Deal.{load_due, deal_conditions}
use Rattle.decisions_spec.specs.Turn.{turn_conditions}
use Rattle.engine.specs.Step.{conditions}
use Rattle.secret.proofs.Plain.{is_plain}

-- a decision in turn: a round is dealt
pub turn-dealt : (t : Table) (j p : ℕ) (rest : List Condition) → first (turn_conditions t j p ++ rest) ≡ 0 → is_dealt t ≡ true
unfolding turn_conditions guest_conditions seat_conditions
turn-dealt t j p rest accepted = not-false (is_dealt t) (accepted-head 5 _ _ (omega arith) (accepted_tail 1 (broken t) _ (omega arith) accepted))

-- a load: the order is valid, and no round is dealt
pub load-accepted : (t : Table) (lent : List ℕ) → first (load_conditions t lent) ≡ 0 → (valid_order t.options.decks lent ≡ true) × (is_dealt t ≡ false)
unfolding load_conditions all_of
load-accepted t lent accepted =
    let none = none_hold (load_conditions t lent) refl accepted in
    (not-false _ none.1.0, none.1.1.0)

-- a box that has dealt asks for a load
load_due_lem : (o : Options) (sh : Shoe) → is_box o ≡ true → 0 < sh.drawn → load_due o sh ≡ true
unfolding load_due
load_due_lem o sh box begun =
    let two : o.device ≡ 2 = eqb-true _ _ box in
    simp (ne_eqb o.device 1 (λ one. omega (arith, two, one)), ne_eqb sh.drawn 0 (λ none. omega (arith, none)))

pub no_deal : (t : Table) → is_box t.options ≡ true → 0 < t.shoe.drawn → first (deal_conditions t) ≡ 0 → ⊥
unfolding deal_conditions all_of
no_deal t box begun accepted =
    let none = none_hold (deal_conditions t) refl accepted in
    true≢false (sym (load_due_lem t.options t.shoe box begun) ∙ none.1.1.1.1.0)

-- an accepted call that is numbered as a load is one: a side stake of kind 0 is refused
pub no_load_lem : (t : Table) (c : Call) (lent : List ℕ) → is_plain c ≡ true → first (conditions t c lent) ≡ 0 → eqb (kind c) 17 ≡ false
unfolding side_conditions seat_conditions is_side_kind all_of
no_load_lem t (Fill n) lent plain accepted = refl
no_load_lem t (Credit n) lent plain accepted = refl
no_load_lem t (Buy at n) lent plain accepted = refl
no_load_lem t (Cash at n) lent plain accepted = refl
no_load_lem t (Stake at n) lent plain accepted = refl
no_load_lem t Deal lent plain accepted = refl
no_load_lem t (Insure at n) lent plain accepted = refl
no_load_lem t (Stand at) lent plain accepted = refl
no_load_lem t (Draw at) lent plain accepted = refl
no_load_lem t (Double at) lent plain accepted = refl
no_load_lem t (Split at) lent plain accepted = refl
no_load_lem t (Surrender at) lent plain accepted = refl
no_load_lem t (Even at) lent plain accepted = refl
no_load_lem t (Five at) lent plain accepted = refl
no_load_lem t Close lent plain accepted = refl
no_load_lem t Void lent plain accepted = refl
no_load_lem t Load lent plain accepted = absurd (true≢false (sym plain))
no_load_lem t (Side at k n) lent plain accepted =
    let known : is_side_kind k ≡ true = not-false (is_side_kind k) (none_hold (side_conditions t at.seat at.position k n) refl accepted).1.1.1.0 in
    let least : 1 ≤ k = leb-true 1 k ((and-eq-true_iff (leb 1 k) (leb k 4)).0 known).0 in
    ne_eqb (17 + k) 17 (λ e. omega (arith, least, e))
