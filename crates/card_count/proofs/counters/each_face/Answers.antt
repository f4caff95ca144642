-- The first 52 counters are asked one by one.
use Rattle.std.proofs.Common.{◌≡◌, Bool, true, ◌&&◌, ℕ, ◌∙◌, eqb, take, length, rules, tests, arith}
use Rattle.std.specs.List.{fold}
use Rattle.std.proofs.lemmas.Iterator.{YieldsList-from_slice}
use Rattle.std.proofs.lemmas.Iterator.Consumers.{fold_from_yields_List}
use Rattle.lists.proofs.Chains.{list_all-below, fold-all}
use Rattle.card_count.proofs.counters.each_face.Goals as goal

pub returns : goal.returns
returns c =
    let of = c.args.of.now in
    let times = c.args.times in
    let full : length of ≡ 256 = search rules in
    let joined : c.fold.result ≡ fold (λ (all : Bool) (x : ℕ). all && eqb x times) true (take 52 of)
    = fold_from_yields_List _ (λ (all : Bool) (x : ℕ). all && eqb x times) true c.fold.result c.fold.ensures.ran (YieldsList-from_slice (take 52 of) cc) (λ a x b q k. search (rules, tests)) in
    joined ∙ fold-all (λ x. eqb x times) true (take 52 of) ∙ list_all-below (λ x. eqb x times) 52 of (omega arith)
