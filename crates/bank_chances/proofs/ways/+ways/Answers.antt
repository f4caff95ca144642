-- Each turn of `ways` adds the counts behind a card of these points, as often as there are such cards.
use Rattle.std.proofs.Common.{◌≡◌, ◌-◌, List, ℕ, length, sym, ap, ◌∙◌, arith}
use Rattle.cards.specs.Hand.{cards_of}
use Rattle.bank_chances.specs.declared.ways.Counts.{Counts}
use Rattle.bank_chances.specs.Aids.Ways.{ways_below}
use Rattle.bank_chances.proofs.Bounds.{fewer}
use Rattle.bank_chances.proofs.Steps.{ended-draw, ended_rule, all-points, no_points, some_more, points-passed, behind-card, room}
use borrow.Author.Rules.{rules}
use Rattle.bank_chances.proofs.ways.+ways.Goals as goal
use Rattle.bank_chances.proofs.ways.+ways.Goals.{then-many-gt0, else-many-gt0}

pub returns-then-depth-eq0 : goal.returns-then-depth-eq0
returns-then-depth-eq0 t c = c.ended.ensures ∙ ended-draw (cards_of c.args.bank) c.args.left c.args.n c.args.depth c.if-depth-eq0.true

pub returns-then-not-must_draw : goal.returns-then-not-must_draw
returns-then-not-must_draw t c =
    c.ended-then-not-must_draw.ensures ∙ ended_rule (cards_of c.args.bank) c.args.left c.args.n c.args.depth (sym c.must_draw.ensures ∙ c.if-not-must_draw.true)

pub loop-p-init : goal.loop-p-init
loop-p-init t c = no_points (cards_of c.args.bank) c.args.left c.args.n (c.args.depth - 1)

pub ways-behind-requires : goal.ways-behind-requires
ways-behind-requires t c =
    let left = c.args.left in
    let ten : length left ≡ 10 = search rules in
    let within = c.requires in
    (omega arith, record { few = rw c.without-rest.ensures (omega (arith, within.few, fewer left c.loop-p.p (omega arith))); most = omega arith; deep = omega arith; enough = omega arith })

pub plus_times-counts-requires : goal.plus_times-counts-requires
plus_times-counts-requires t c =
    let bank = c.args.bank in
    let left = c.args.left in
    let n = c.args.n in
    let k = c.args.depth - 1 in
    let p = c.loop-p.p in
    let ten : length left ≡ 10 = search rules in
    let full : length bank.cards ≡ 20 = search rules in
    let must = sym c.must_draw.ensures ∙ c.if-not-must_draw.false in
    let later = behind-card bank c.with_card.result left c.ways-behind.result.each n k p full must c.with_card.ensures (rw c.without-rest.ensures at c.ways-behind.ensures) in
    room (cards_of bank) left c.loop-p.counts.each c.ways-behind.result.each n k p c.loop-p.invariant later c.requires.most ten c.requires.few (omega arith) (omega arith)

pub loop-p-preserved : goal.loop-p-preserved
loop-p-preserved t c =
    let bank = c.args.bank in
    let left = c.args.left in
    let n = c.args.n in
    let k = c.args.depth - 1 in
    let p = c.loop-p.p in
    let full : length bank.cards ≡ 20 = search rules in
    let must = sym c.must_draw.ensures ∙ c.if-not-must_draw.false in
    let so = c.loop-p.invariant in
    let each : Counts → List ℕ = λ counts. counts.each in
    elim c.if-many-gt0.branch [
      | then-many-gt0 w ↦
          ap each w.counts-is
          ∙ w.plus_times-counts.ensures
          ∙ rw (so, behind-card bank w.with_card.result left w.ways-behind.result.each n k p full must w.with_card.ensures (rw w.without-rest.ensures at w.ways-behind.ensures)) (some_more (cards_of bank) left n k p)
      | else-many-gt0 w ↦ ap each w.counts-is ∙ so ∙ points-passed (cards_of bank) left n k p (omega arith)
    ]

pub returns : goal.returns
returns t c =
    let bank = c.args.bank in
    let left = c.args.left in
    let n = c.args.n in
    let depth = c.args.depth in
    let must = sym c.must_draw.ensures ∙ c.if-not-must_draw.false in
    let all : c.loop-p.p ≡ 10 = omega arith in
    c.loop-p.invariant ∙ ap (ways_below (cards_of bank) left n (depth - 1)) all ∙ all-points (cards_of bank) left n depth must (omega arith)
