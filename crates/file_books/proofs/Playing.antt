-- An accepted call can be written: its seat is one of nine, its position one of three, its amount is on the table or comes onto it within 10^15, and a load's order is valid. What a file keeps of the calls plays
-- as they did: of all that is lent a call reads an order only where it is a load.
use mathlib.Core.Path.{◌≡◌, refl, sym, ◌∙◌, ap, ap₂, subst}
use mathlib.Core.Bool.{Bool, true, false, cond, ◌&&◌, true≢false}
use mathlib.Core.List.{List, [], ◌∷◌, ◌++◌, map, reverse, reverse_aux, append-nil}
use Prim.Native.Nat.{ℕ, ◌+◌, ◌≤◌, ◌<◌}
use native.Mathlib.Decide.{dec_le}
use native.Mathlib.Omega.{arith}
use lib.Dec.{eqb}
use lib.ListN.{length, get_or-eq_default}
use borrow.Author.Tests.{lt-ltb, le-leb, leb-false, eqb-true}
use Rattle.lists.specs.Tests.{all_of}
use Rattle.lists.proofs.Sums.{sum_has}
use Rattle.lists.proofs.Tests.{where_test}
use Rattle.call.specs.declared.Call.{Call}
use Rattle.call.specs.declared.Call.TheVariants.{Fill, Credit, Buy, Cash, Stake, Deal, Insure, Stand, Draw, Double, Split, Surrender, Even, Five, Close, Void, Load, Side}
use Rattle.call.specs.Call.{kind, seat, position, amount}
use Rattle.call.specs.Refusal.{Condition, first}
use Rattle.call.proofs.Refusals.{none_hold, first_past}
use Rattle.table.specs.declared.Money.{Money}
use Rattle.table.specs.declared.Table.{Table}
use Rattle.table.specs.Seat.{missing_seat, over_guests, purse}
use Rattle.table.specs.Table.{seat_at, guest_of}
use Rattle.table.specs.Money.{most_money, all_money}
use Rattle.table.specs.Broken.{broken}
use Rattle.table.proofs.Facts.{unbroken, seat_of-nine}
use Rattle.table.proofs.Guests.{over_has, guest_missing}
use Rattle.answer.specs.Conditions.{in_round, seat_conditions, guest_conditions}
use Rattle.table.specs.Shoe.{valid_order}
use Rattle.history.specs.Entry.{Entry, is_load}
use Rattle.cashier_spec.proofs.Fill.{fill-accepted}
use Rattle.cashier_spec.proofs.Credit.{credit-accepted}
use Rattle.cashier_spec.proofs.Buy.{buy-accepted}
use Rattle.cashier_spec.proofs.Cash.{cash-accepted}
use Rattle.cashier_spec.proofs.Stake.{stake-accepted}
use Rattle.cashier_spec.proofs.Side.{side-accepted}
use Rattle.cashier_spec.proofs.Load.{load-accepted}
use Rattle.decisions_spec.specs.Turn.{turn_conditions}
use Rattle.decisions_spec.specs.Draw.{draw_conditions}
use Rattle.decisions_spec.specs.Double.{double_conditions}
use Rattle.decisions_spec.specs.Split.{split_conditions}
use Rattle.decisions_spec.specs.Even.{even_conditions}
use Rattle.decisions_spec.specs.Five.{five_conditions}
use Rattle.decisions_spec.specs.Surrender.{surrender_conditions}
use Rattle.decisions_spec.proofs.Insure.{insure-accepted}
use Rattle.engine.specs.Step.{conditions, effect, step, number, next}
use Rattle.engine.specs.Run.{run, accepted}
use Rattle.options.specs.declared.Options.{Options}
use Rattle.answer.specs.Reply.{ReplyView, reply_by}
use Rattle.cashier_spec.specs.Opening.{open_number, opened}
use Rattle.cashier_spec.proofs.Opening.{accepted_table}
use Rattle.books.proofs.Steps.{step_options}
use Rattle.books.proofs.Replay.{replayed}
use Rattle.file_spec.specs.File.{known_kind, fits, writable}
use Rattle.file_spec.specs.Laws.{kept}
use Rattle.file_books.specs.Written.{called_in}
use Rattle.file_spec.proofs.Alls.{all_cons, cons_all}

-- a purse holds no more than all money
purse-within : (t : Table) (j p : ℕ) → broken t ≡ false → p < 3 → purse (guest_of t j p) ≤ most_money
purse-within t j p whole near = go (dec_le (length t.seats) j)
  where
    limit : all_money t ≤ most_money
    limit = (unbroken t whole).money

    go : Dec (length t.seats ≤ j) → purse (guest_of t j p) ≤ most_money
    go (yes beyond) = rw (get_or-eq_default t.seats missing_seat {n = j} beyond) (omega (arith, ap (λ (m : Money). m.purse) (guest_missing p)))
    go (no within) = omega (arith, limit, over_has purse (seat_at t j) p near, sum_has (over_guests purse) t.seats j missing_seat (omega arith))

-- what a call of a guest asks first bounds seat and position
guest_in : (t : Table) (j p : ℕ) (rest : List Condition) → first (guest_conditions (in_round t) t j p ++ rest) ≡ 0 → (j < 9) × (p < 3)
unfolding guest_conditions seat_conditions all_of
guest_in t j p rest e =
    let (whole, (dealt, (such-seat, (such-position, _)))) = none_hold (guest_conditions (in_round t) t j p) refl (first_past (guest_conditions (in_round t) t j p) rest 0 refl e) in
    (seat_of-nine t j whole such-seat, leb-false 3 p such-position)

turn_in_lem : (t : Table) (j p : ℕ) (rest : List Condition) → first (turn_conditions t j p ++ rest) ≡ 0 → (j < 9) × (p < 3)
unfolding turn_conditions guest_conditions seat_conditions all_of
turn_in_lem t j p rest e = guest_in t j p _ (first_past (turn_conditions t j p) rest 0 refl e)

-- a call within these bounds fits
within : (c : Call) → known_kind c ≡ true → seat c < 9 → position c < 3 → amount c ≤ most_money → fits c ≡ true
within c known s p n =
    ap₂ ◌&&◌ (ap₂ ◌&&◌ (ap₂ ◌&&◌ known (lt-ltb (seat c) 16 (omega arith))) (lt-ltb (position c) 16 (omega arith))) (le-leb (amount c) 18446744073709551615 (omega arith))

accepted-fits : (t : Table) (c : Call) (order : List ℕ) → first (conditions t c order) ≡ 0 → fits c ≡ true
unfolding known_kind draw_conditions double_conditions split_conditions even_conditions five_conditions surrender_conditions
accepted-fits t (Fill n) order e = within (Fill n) refl (omega arith) (omega arith) (omega (arith, (fill-accepted t n e).in_limit))
accepted-fits t (Credit n) order e =
    let a = credit-accepted t n e in
    within (Credit n) refl (omega arith) (omega arith) (omega (arith, a.enough, (unbroken t a.unbroken).money))
accepted-fits t (Buy at n) order e =
    let a = buy-accepted t at.seat at.position n e in
    within (Buy at n) refl a.guest.nine a.guest.position (omega (arith, a.in_limit))
accepted-fits t (Cash at n) order e =
    let a = cash-accepted t at.seat at.position n e in
    within (Cash at n) refl a.guest.nine a.guest.position (omega (arith, a.enough, purse-within t at.seat at.position a.guest.unbroken a.guest.position))
accepted-fits t (Stake at n) order e =
    let a = stake-accepted t at.seat at.position n e in
    within (Stake at n) refl a.guest.nine a.guest.position (omega (arith, a.enough, purse-within t at.seat at.position a.guest.unbroken a.guest.position))
accepted-fits t Deal order e = refl
accepted-fits t (Insure at n) order e =
    let a = insure-accepted t at.seat at.position n e in
    within (Insure at n) refl a.acting.nine a.position (omega (arith, a.enough, purse-within t at.seat at.position a.acting.unbroken a.position))
accepted-fits t (Stand at) order e = let (j, p) = turn_in_lem t at.seat at.position [] (ap first (append-nil (turn_conditions t at.seat at.position)) ∙ e) in within (Stand at) refl j p (omega arith)
accepted-fits t (Draw at) order e = let (j, p) = turn_in_lem t at.seat at.position _ e in within (Draw at) refl j p (omega arith)
accepted-fits t (Double at) order e = let (j, p) = turn_in_lem t at.seat at.position _ e in within (Double at) refl j p (omega arith)
accepted-fits t (Split at) order e = let (j, p) = turn_in_lem t at.seat at.position _ e in within (Split at) refl j p (omega arith)
accepted-fits t (Surrender at) order e = let (j, p) = guest_in t at.seat at.position _ e in within (Surrender at) refl j p (omega arith)
accepted-fits t (Even at) order e = let (j, p) = turn_in_lem t at.seat at.position _ e in within (Even at) refl j p (omega arith)
accepted-fits t (Five at) order e = let (j, p) = turn_in_lem t at.seat at.position _ e in within (Five at) refl j p (omega arith)
accepted-fits t Close order e = refl
accepted-fits t Void order e = refl
accepted-fits t Load order e = refl
accepted-fits t (Side at k n) order e =
    let a = side-accepted t at.seat at.position k n e in
    within (Side at k n) (ap₂ ◌&&◌ (le-leb 1 k a.least) (le-leb k 4 a.most)) a.guest.nine a.guest.position
    (omega (arith, a.enough, purse-within t at.seat at.position a.guest.unbroken a.guest.position))

-- a call of the kind of a load is one, where it is accepted, and its order is valid
load_valid : (t : Table) (c : Call) (order : List ℕ) → first (conditions t c order) ≡ 0 → eqb (kind c) 17 ≡ true → valid_order t.options.decks order ≡ true
load_valid t (Fill n) order e l = absurd (true≢false (sym l))
load_valid t (Credit n) order e l = absurd (true≢false (sym l))
load_valid t (Buy at n) order e l = absurd (true≢false (sym l))
load_valid t (Cash at n) order e l = absurd (true≢false (sym l))
load_valid t (Stake at n) order e l = absurd (true≢false (sym l))
load_valid t Deal order e l = absurd (true≢false (sym l))
load_valid t (Insure at n) order e l = absurd (true≢false (sym l))
load_valid t (Stand at) order e l = absurd (true≢false (sym l))
load_valid t (Draw at) order e l = absurd (true≢false (sym l))
load_valid t (Double at) order e l = absurd (true≢false (sym l))
load_valid t (Split at) order e l = absurd (true≢false (sym l))
load_valid t (Surrender at) order e l = absurd (true≢false (sym l))
load_valid t (Even at) order e l = absurd (true≢false (sym l))
load_valid t (Five at) order e l = absurd (true≢false (sym l))
load_valid t Close order e l = absurd (true≢false (sym l))
load_valid t Void order e l = absurd (true≢false (sym l))
load_valid t Load order e l = (load-accepted t order e).valid
load_valid t (Side at k n) order e l =
    let a = side-accepted t at.seat at.position k n e in
    let same = eqb-true (17 + k) 17 l in
    absurd (omega (arith, a.least))

writable-one : (t : Table) (e : Entry) → first (conditions t e.call e.order) ≡ 0 → writable t.options e ≡ true
unfolding writable
writable-one t e ok = ap₂ ◌&&◌ (accepted-fits t e.call e.order ok) (where_test (is_load e) (valid_order t.options.decks e.order) (load_valid t e.call e.order ok))

-- no call changes the options
next_options : (t : Table) (c : Call) (order : List ℕ) → (next t c order).options ≡ t.options
unfolding next number step reply_by
next_options t c order = go (eqb (number t c order) 0)
  where
    go : (b : Bool) → (cond b (effect t c order) t).options ≡ t.options
    go true = step_options t c order
    go false = refl

-- a list turned round
all_turned : {A : Type 0} (f : A → Bool) (xs ys : List A) → all_of f xs ≡ true → all_of f ys ≡ true → all_of f (reverse_aux xs ys) ≡ true
all_turned f [] ys hx hy = hy
all_turned f (x ∷ xs) ys hx hy = let (one, more) = all_cons f x xs hx in all_turned f xs (x ∷ ys) more (cons_all f x ys one hy)

-- all accepted calls of a run
module _ (o : Options) where
  writable-known : (t : Table) (e : Entry) (known : List Entry) → t.options ≡ o → all_of (writable o) known ≡ true → all_of (writable o) (cond (eqb (number t e.call e.order) 0) (e ∷ known) known) ≡ true
  unfolding number step reply_by
  writable-known t e known same ok = go (eqb (number t e.call e.order) 0) refl
    where
      go : (b : Bool) → eqb (number t e.call e.order) 0 ≡ b → all_of (writable o) (cond b (e ∷ known) known) ≡ true
      go true accept =
          cons_all (writable o) e known (subst (λ (x : Options). writable x e ≡ true) same (writable-one t e (eqb-true (number t e.call e.order) 0 accept))) ok
      go false refuse = ok

  writable-run : (t : Table) (calls known : List Entry) → t.options ≡ o → all_of (writable o) known ≡ true → all_of (writable o) (accepted t calls known) ≡ true
  unfolding accepted
  writable-run t [] known same ok = ok
  writable-run t (e ∷ calls) known same ok =
      writable-run (next t e.call e.order) calls (cond (eqb (number t e.call e.order) 0) (e ∷ known) known) (next_options t e.call e.order ∙ same) (writable-known t e known same ok)

  pub writable-called : (order : List ℕ) (calls : List Entry) → open_number o order ≡ 0 → all_of (writable o) (called_in o order calls) ≡ true
  unfolding all_of
  writable-called order calls opens =
      all_turned (writable o) (accepted (opened o order) calls []) [] (writable-run (opened o order) calls [] (ap (λ (t : Table). t.options) (accepted_table o order opens)) refl) refl

-- what is lent beside a call that is no load is not read
lent_same : (t : Table) (c : Call) (order : List ℕ) → step t c (cond (eqb (kind c) 17) order []) ≡ step t c order
unfolding step
lent_same t (Fill n) order = refl
lent_same t (Credit n) order = refl
lent_same t (Buy at n) order = refl
lent_same t (Cash at n) order = refl
lent_same t (Stake at n) order = refl
lent_same t Deal order = refl
lent_same t (Insure at n) order = refl
lent_same t (Stand at) order = refl
lent_same t (Draw at) order = refl
lent_same t (Double at) order = refl
lent_same t (Split at) order = refl
lent_same t (Surrender at) order = refl
lent_same t (Even at) order = refl
lent_same t (Five at) order = refl
lent_same t Close order = refl
lent_same t Void order = refl
lent_same t Load order = refl
lent_same t (Side at k n) order = refl

kept_run : (t : Table) (es : List Entry) → run t (map kept es) ≡ run t es
unfolding run next
kept_run t [] = refl
kept_run t (e ∷ es) = ap (λ (r : ReplyView). run r.table (map kept es)) (lent_same t e.call e.order) ∙ kept_run (next t e.call e.order) es

pub kept-played : (t : Table) (calls : List Entry) → run t (map kept (reverse (accepted t calls []))) ≡ run t calls
kept-played t calls = kept_run t (reverse (accepted t calls [])) ∙ (replayed t calls).same_table
