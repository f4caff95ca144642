-- Of the bank's cards all but those that it had are drawn now, and so is the burnt one; then all drawn cards are discards.
use mathlib.Core.Path.{◌≡◌, ◌∙◌, ap, ap₂}
use Prim.Native.Nat.{◌+◌, ◌-◌, ◌≤◌}
use native.Mathlib.Omega.{arith}
use lib.ListN.{length}
use Rattle.cards.specs.declared.hand.Hand.{Hand}
use Rattle.table.specs.declared.Shoe.{Shoe}
use Rattle.table.specs.declared.Table.{Table}
use Rattle.table.specs.Shoe.{with_drawn, discard_drawn}
use Rattle.close_spec.specs.BankDraw.{close_takes}
use Rattle.close.proofs.closing.Clears.{all_drawn}
use Rattle.close.proofs.closing.Closing.shoe.Goals.{After-held_cards-2}
use Rattle.close.proofs.closing.Closing.shoe.Goals as goal

drawn : (c : After-held_cards-2) → (length c.held_cards-2.result.now ≤ length c.held_cards.result.now)
    × (c.bank_burn-burnt.result + (length c.held_cards.result.now - length c.held_cards-2.result.now) ≡ close_takes c.self.inside.table.now)
    × (c.table-t.result.now.shoe.drawn + close_takes c.self.inside.table.now ≤ 416)
drawn c = all_drawn c.self.inside.table.now c.self.inside.bank c.self.invariant.0 c.table-t.ensures.same c.bank_burn-burnt.ensures c.held_cards-2.ensures c.held_cards.ensures

pub overflow_sub-new : goal.overflow_sub-new
overflow_sub-new c = (drawn c).0

pub overflow_add-burnt : goal.overflow_add-burnt
overflow_add-burnt c = omega (arith, drawn (goal.at.overflow_add-burnt c).After-held_cards-2)

pub with_drawn-requires : goal.with_drawn-requires
with_drawn-requires c = omega (arith, drawn (goal.at.with_drawn-requires c).After-held_cards-2)

pub discard_drawn-requires : goal.discard_drawn-requires
discard_drawn-requires c = omega (arith, ap (λ (s : Shoe). s.drawn) c.with_drawn.ensures, drawn (goal.at.discard_drawn-requires c).After-held_cards-2)

pub returns : goal.returns
returns c =
    let now = (drawn (goal.at.returns c).After-held_cards-2).1 in
    let seen = ap (λ (v : Table × Hand). v.0) c.self.view_is in
    c.discard_drawn.ensures
    ∙ ap discard_drawn (c.with_drawn.ensures ∙ ap₂ with_drawn (ap (λ (x : Table). x.shoe) (c.table-t.ensures.same ∙ seen)) (now ∙ ap close_takes seen))
