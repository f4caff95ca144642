-- `bank_at_close` goes card by card: before each turn what the bank still takes of the cards left makes the same cards as at the start.
-- A bank that stands takes none, and no more does one that has no card left.
use mathlib.Core.Path.{◌≡◌, refl, sym, ◌∙◌, ap}
use mathlib.Core.Bool.{true}
use Prim.Native.Nat.{◌+◌}
use native.Mathlib.Omega.{arith}
use lib.ListN.{length, take, drop}
use Rattle.cards.specs.declared.hand.Hand.{Hand}
use Rattle.cards.specs.Hand.{cards_of}
use Rattle.payment.specs.Bank.{must_draw, bank_takes}
use Rattle.payment.proofs.bank.Draws.{stands_all, draws-card, draws_full}
use Rattle.close.proofs.bank_draw.Draws.{draws_more, draws-none, draws-whole}
use borrow.Author.Rules.{rules}
use Rattle.close.proofs.bank_draw.bank_at_close.Goals as goal

pub loop-n-init : goal.loop-n-init
loop-n-init c = let full : length c.args.t.bank.cards ≡ 20 = search rules in (full, refl)

pub returns-then-not-must_draw : goal.returns-then-not-must_draw
returns-then-not-must_draw c =
    let at = c in
    let start = at in
    let burnt = at in
    sym (stands_all (cards_of at.loop-n.bank) _ (sym c.must_draw.ensures ∙ c.if-not-must_draw.true))
    ∙ at.loop-n.invariant.1
    ∙ draws-whole start.args.t burnt.bank_burn-burnt.result burnt.cards_left-left.result burnt.bank_burn-burnt.ensures burnt.cards_left-left.ensures start.requires.0

pub slice_bounds-card_ahead-end : goal.slice_bounds-card_ahead-end
slice_bounds-card_ahead-end c =
    let start = c in
    let full : length start.args.t.shoe.order ≡ 416 = search rules in
    sym full

pub overflow_step-n : goal.overflow_step-n
overflow_step-n c = omega arith

pub loop-n-smaller : goal.loop-n-smaller
loop-n-smaller c = omega arith

pub loop-n-preserved : goal.loop-n-preserved
loop-n-preserved c =
    let at = c in
    let start = at in
    let sh = start.args.t.shoe in
    let bank = at.loop-n.bank in
    let n = at.loop-n.n in
    let left = at.cards_left-left.result in
    let card = c.card_ahead.result in
    let full : length sh.order ≡ 416 = search rules in
    let draws : must_draw (cards_of bank) ≡ true = sym c.must_draw.ensures ∙ c.if-not-must_draw.false in (
      ap (λ (h : Hand). length h.cards) c.with_card-bank.ensures ∙ draws_full bank card at.loop-n.invariant.0 draws,
      ap (λ (h : Hand). bank_takes (cards_of h) (drop (n + 1) (drop sh.drawn (take (sh.drawn + left) sh.order)))) c.with_card-bank.ensures
          ∙ rw (draws-card bank card at.loop-n.invariant.0 draws, c.card_ahead.ensures) (draws_more sh.order (sh.drawn + left) (omega arith) sh.drawn (cards_of bank) n (omega arith) draws)
          ∙ at.loop-n.invariant.1,
    )

pub returns : goal.returns
returns c =
    let at = c in
    let start = at in
    let burnt = at in
    let sh = start.args.t.shoe in
    let left = burnt.cards_left-left.result in
    let full : length sh.order ≡ 416 = search rules in
    sym (draws-none sh.order (sh.drawn + left) (omega arith) sh.drawn (cards_of at.loop-n.bank) at.loop-n.n (omega arith))
    ∙ at.loop-n.invariant.1
    ∙ draws-whole start.args.t burnt.bank_burn-burnt.result left burnt.bank_burn-burnt.ensures burnt.cards_left-left.ensures start.requires.0
