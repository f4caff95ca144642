-- The tests are joined: where all pass, each does.
use mathlib.Core.Path.{◌≡◌, sym, ◌∙◌}
use mathlib.Core.Bool.{Bool, true, ◌&&◌, and-eq-true_iff}
use borrow.Author.Tests.{eqb-true}
use lib.Dec.{eqb}
use lib.ListN.{get_or}
use Rattle.lists.specs.Below.{all_below}
use Rattle.lists.proofs.Below.{all_below_lem}
use Rattle.table.specs.declared.Seat.{Seat}
use Rattle.table.specs.Seat.{stake, insurance, sides}
use Rattle.broken.specs.Aids.AtRest.{AtRest}
use Rattle.broken.proofs.seat.at_rest.Goals as goal

all_none : (s : Seat) (side : Bool) → side ≡ all_below (λ k. eqb (get_or (sides s) k 0) 0) 4 → eqb s.hands.many 0 && eqb (stake s) 0 && eqb (insurance s) 0 && side ≡ true → AtRest s
all_none s side same e =
    let (most, none) = (and-eq-true_iff _ _).0 e in
    let (held, insured) = (and-eq-true_iff _ _).0 most in
    let (many, staked) = (and-eq-true_iff _ _).0 held in
    record {
      no_hand = eqb-true _ _ many;
      bets = record { no_stake_lem = eqb-true _ _ staked; no_insurance = eqb-true _ _ insured; no_sides = λ k h. eqb-true _ _ (all_below_lem (λ k. eqb (get_or (sides s) k 0) 0) 4 k (sym same ∙ none) h) };
    }

pub returns : goal.returns
returns c = all_none c.args.s c.no_sides.result c.no_sides.ensures
