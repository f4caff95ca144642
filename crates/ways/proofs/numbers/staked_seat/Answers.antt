-- The nine seats are asked in their order; the number of the first that is staked, or 9, fits into eight bits.
use Rattle.std.proofs.Common.{◌≡◌, ◌≤◌, Bool, List, [], ◌∷◌, length, rules, tests, arith}
use Rattle.std.specs.Prelude.{position}
use Rattle.std.proofs.lemmas.Iterator.{YieldsList-from_slice}
use Rattle.std.proofs.lemmas.Iterator.Search.{position_from_yields_List}
use Rattle.lists.specs.Tests.{first_place}
use Rattle.lists.proofs.Chains.{first_place-position}
use Rattle.lists.proofs.Picks.{cond_most}
use Rattle.table.specs.Seat.{is_staked}
use Rattle.ways.proofs.numbers.staked_seat.Goals.{After-unwrap_or}
use Rattle.ways.proofs.numbers.staked_seat.Goals as goal

first_most : {A : Type 0} (test : A → Bool) (xs : List A) → first_place test xs ≤ length xs
unfolding first_place
first_most test [] = omega arith
first_most test (x ∷ xs) = cond_most (test x) (omega arith) (omega (arith, first_most test xs))

asked : (c : After-unwrap_or) → first_place is_staked c.args.t.seats ≡ c.unwrap_or.result
asked c =
    let seats = c.args.t.seats in
    let full : length seats ≡ 9 = search rules in
    let found : c.position.result ≡ position is_staked seats = position_from_yields_List is_staked _ _ _ c.position.ensures.ran (YieldsList-from_slice seats cc) (λ x b q k. search (rules, tests)) in
    rw (first_place-position, ← found, full) (search rules)

pub overflow_cast-result : goal.overflow_cast-result
overflow_cast-result c =
    let full : length c.args.t.seats ≡ 9 = search rules in
    let few : c.unwrap_or.result ≤ 9 = omega (arith, asked c, first_most is_staked c.args.t.seats) in
    omega (arith, few)

pub returns : goal.returns
returns c = search (rules, asked (goal.at.returns c).After-unwrap_or)
