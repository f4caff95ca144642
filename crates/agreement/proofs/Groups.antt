-- The calls in groups, by their kinds. A call of one group is of no kind of another: so what a call is not follows from its group. Only `group` lists
-- the kinds.
use mathlib.Core.Path.{◌≡◌, sym, ◌∙◌, ap}
use mathlib.Core.Bool.{true, false, cond, ◌&&◌, ◌||◌, true≢false, and-false}
use Prim.Native.Nat.{ℕ, ◌+◌, ◌≤◌, ◌<◌}
use native.Mathlib.Decide.{dec_le}
use native.Mathlib.Omega.{arith}
use lib.Dec.{eqb, leb}
use borrow.Author.Tests.{eq-eqb, ne_eqb, eqb-false, le-leb, lt-leb}
use Rattle.lists.proofs.Tests.{or_eq_false}
use Rattle.call.specs.Call.{kind}
use Rattle.history.specs.Entry.{Entry, is_kind, is_fill, is_credit, is_buy, is_cash, is_stake, is_deal, is_insure, is_stand, is_draw, is_double, is_split, is_surrender, is_even, is_five, is_close, is_void, is_load, is_side_of, is_side, is_drawing, is_decision, is_end}

-- fill, credit and load; buy, cash, stake and side stakes; deal; insure and the decisions; close and void
abbrev pub of_house : ℕ
of_house = 0

abbrev pub of_purse : ℕ
of_purse = 1

abbrev pub of_deal : ℕ
of_deal = 2

abbrev pub of_guest : ℕ
of_guest = 3

abbrev pub of_end : ℕ
of_end = 4

abbrev of_none : ℕ
of_none = 5

abbrev pub group : ℕ → ℕ
group k =
    cond (eqb k 1 || eqb k 2 || eqb k 17) of_house
    (cond (eqb k 3 || eqb k 4 || eqb k 5 || leb 18 k && leb k 21) of_purse
    (cond (eqb k 6) of_deal
    (cond (leb 7 k && leb k 14) of_guest
    (cond (eqb k 15 || eqb k 16) of_end
    of_none))))

abbrev pub InGroup : Entry → ℕ → Type 0
InGroup e g = group (kind e.call) ≡ g

-- were it of the kind, the groups would be one
not_kind : (e : Entry) (g k : ℕ) → InGroup e g → eqb (group k) g ≡ false → is_kind k e ≡ false
not_kind e g k among other =
    ne_eqb (kind e.call) k (λ same. absurd (true≢false (sym (eq-eqb (group k) g (ap group (sym same) ∙ among)) ∙ other)))

-- a call that is no side stake is one of no kind
pub not_side_of : (e : Entry) → is_side e ≡ false → (k : ℕ) → k < 4 → is_side_of (k + 1) e ≡ false
not_side_of e none k h =
    ne_eqb (kind e.call) (17 + (k + 1)) (λ same.
    let it : is_side e ≡ true = simp (le-leb 18 (kind e.call) (omega arith), le-leb (kind e.call) 21 (omega arith)) in
    absurd (true≢false (sym it ∙ none)))

-- a call that draws nothing is of none of the three kinds; one that is no decision draws nothing
pub not_drawing : (e : Entry) → is_drawing e ≡ false → (is_draw e ≡ false) × (is_double e ≡ false) × (is_split e ≡ false)
not_drawing e none =
    let (two, split) = or_eq_false (is_draw e || is_double e) (is_split e) none in
    let (draw, double) = or_eq_false (is_draw e) (is_double e) two in
    (draw, double, split)

pub no_drawing : (e : Entry) → is_decision e ≡ false → is_drawing e ≡ false
no_drawing e none = (or_eq_false (is_stand e || is_surrender e || is_even e || is_five e) (is_drawing e) none).1

-- what a call of the group g is not
module _ (e : Entry) {g : ℕ} (among : InGroup e g) where
  module _ (other : eqb of_house g ≡ false) where
    pub not_fill : is_fill e ≡ false
    not_fill = not_kind e g _ among other

    pub not_credit : is_credit e ≡ false
    not_credit = not_kind e g _ among other

    pub not_load : is_load e ≡ false
    not_load = not_kind e g _ among other

  module _ (other : eqb of_purse g ≡ false) where
    pub not_buy : is_buy e ≡ false
    not_buy = not_kind e g _ among other

    pub not_cash : is_cash e ≡ false
    not_cash = not_kind e g _ among other

    pub not_stake : is_stake e ≡ false
    not_stake = not_kind e g _ among other

    pub not_side : is_side e ≡ false
    not_side = go (dec_le 18 (kind e.call))
      where
        -- it is none of the four kinds
        not-of : (k : ℕ) → eqb (group k) g ≡ false → kind e.call ≡ k → ⊥
        not-of k other = eqb-false (kind e.call) k (not_kind e g k among other)

        go : Dec (18 ≤ kind e.call) → is_side e ≡ false
        go (yes h) = simp (lt-leb (kind e.call) 21 (omega (arith, not-of 18 other, not-of 19 other, not-of 20 other, not-of 21 other)), and-false)
        go (no h) = simp (lt-leb 18 (kind e.call) (omega arith))

  pub not_deal : eqb of_deal g ≡ false → is_deal e ≡ false
  not_deal other = not_kind e g _ among other

  module _ (other : eqb of_guest g ≡ false) where
    pub not_insure : is_insure e ≡ false
    not_insure = not_kind e g _ among other

    pub not_draw : is_draw e ≡ false
    not_draw = not_kind e g _ among other

    pub not_double : is_double e ≡ false
    not_double = not_kind e g _ among other

    pub not_split : is_split e ≡ false
    not_split = not_kind e g _ among other

    pub not_decision : is_decision e ≡ false
    not_decision =
        let stand : is_stand e ≡ false = not_kind e g _ among other in
        let surrender : is_surrender e ≡ false = not_kind e g _ among other in
        let even : is_even e ≡ false = not_kind e g _ among other in
        let five : is_five e ≡ false = not_kind e g _ among other in
        simp (stand, surrender, even, five, not_draw, not_double, not_split)

  module _ (other : eqb of_end g ≡ false) where
    pub not_close : is_close e ≡ false
    not_close = not_kind e g _ among other

    pub not_void : is_void e ≡ false
    not_void = not_kind e g _ among other

    pub not_end : is_end e ≡ false
    not_end = simp (not_close, not_void)
