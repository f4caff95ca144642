-- The recursion counts the cards that are left, by their points.
use mathlib.Core.Path.{◌≡◌, ◌∙◌, ap}
use mathlib.Core.Bool.{true}
use Prim.Native.Nat.{ℕ}
use native.Mathlib.Omega.{arith}
use borrow.Author.Tests.{eq-eqb}
use lib.Dec.{eqb}
use lib.ListN.{length}
use Rattle.cards.specs.Hand.{with_card}
use Rattle.cards.specs.declared.hand.Hand.{Hand}
use Rattle.bank_chances.specs.CardsLeft.{cards_left}
use Rattle.bank_chances.specs.Chances.{chances_number, make_chances, chances_of}
use Rattle.bank_chances.specs.Draws.{falling}
use Rattle.bank_chances.proofs.Accepted.{accepted, accepted-within, counted}
use borrow.Author.Rules.{rules}
use Rattle.bank_chances.proofs.counted.Goals as goal

pub ways-found-requires : goal.ways-found-requires
ways-found-requires c =
    let up = c.args.up in
    let left = c.args.left in
    let depth = c.args.depth in
    let full : length left ≡ 52 = search rules in
    let none : chances_number up left depth ≡ 0 = c.requires in
    let counts = c.by_points.result in
    let ten : length counts ≡ 10 = search rules in
    accepted-within left counts c.many_left-n.result depth (accepted up left depth full none) c.many_left-n.ensures ten c.by_points.ensures

pub falling-requires : goal.falling-requires
falling-requires c =
    let up = c.args.up in
    let left = c.args.left in
    let depth = c.args.depth in
    let full : length left ≡ 52 = search rules in
    let none : chances_number up left depth ≡ 0 = c.requires in
    let ok = accepted up left depth full none in
    (omega (arith, c.many_left-n.ensures, ok.few), ok.deep)

pub returns : goal.returns
unfolding chances_of
returns c =
    let up = c.args.up in
    let left = c.args.left in
    let depth = c.args.depth in
    let full : length left ≡ 52 = search rules in
    let none : chances_number up left depth ≡ 0 = c.requires in
    let n = c.many_left-n.result in
    let many = c.many_left-n.ensures in
    let counts = c.by_points.result in
    let ten : length counts ≡ 10 = search rules in
    let hand = c.with_card-bank.result in
    let dealt = c.with_card-bank.ensures ∙ ap (λ (h : Hand). with_card h up) c.empty_hand.ensures in
    let same : eqb (chances_number up left depth) 0 ≡ true = eq-eqb (chances_number up left depth) 0 none in
    simp same
    (ap (λ (all : ℕ). make_chances 0 all c.ways-found.result.each) (c.falling.ensures ∙ ap (λ (m : ℕ). falling m depth) many)
    ∙ ap (make_chances 0 (falling (length (cards_left left)) depth)) (c.ways-found.ensures ∙ counted up hand (cards_left left) counts n depth dealt many ten c.by_points.ensures))
