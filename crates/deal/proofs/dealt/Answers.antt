-- The parts are the definition's: the passes from the cards behind the burn and behind the bank's card, the card between them and the one behind both.
use mathlib.Core.Path.{◌≡◌, ◌∙◌, ap, ap₂}
use native.Mathlib.Omega.{arith}
use Rattle.table.specs.declared.Shoe.{Shoe}
use Rattle.table.specs.Shoe.{with_drawn}
use Rattle.deal.proofs.Room.{deal-room}
use Rattle.deal.proofs.Effect.{effect}
use Rattle.deal.proofs.dealt.Goals as goal

pub pass-once-requires : goal.pass-once-requires
pass-once-requires c = omega arith

pub pass-next-requires : goal.pass-next-requires
pass-next-requires c = omega arith

pub burn-requires : goal.burn-requires
burn-requires c =
    let start = c in
    let room = deal-room start.args.t start.requires in
    let burnt = c.burn_at_deal-burnt.ensures.same in
    (omega arith, omega arith, omega arith)

pub with_drawn-drawn-requires : goal.with_drawn-drawn-requires
with_drawn-drawn-requires c =
    let start = c in
    let room = deal-room start.args.t start.requires in
    let same : c.burn.result.drawn ≡ start.args.t.shoe.drawn = ap (λ (sh : Shoe). sh.drawn) c.burn.ensures in
    omega (arith, c.deal_takes.ensures)

pub returns : goal.returns
returns c =
    let bank = c in
    let cards = bank in
    let counted = cards in
    effect c.args.t counted.burn_at_deal-burnt.ensures.same counted.staked_seats-staked.ensures.same cards.card_ahead-up.ensures cards.card_ahead-hidden.ensures
    bank.pass-once.ensures bank.pass-next.ensures bank.dealt_bank-next.ensures
    (c.with_drawn-drawn.ensures ∙ ap₂ with_drawn c.burn.ensures c.deal_takes.ensures)
