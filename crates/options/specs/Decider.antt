-- Request 2.8, article 20: who decides for a seat on which several guests have staked.
use Rattle.std.specs.Prelude.{cond, ◌&&◌, ℕ, ltb, eqb}
use Rattle.options.specs.declared.Options.{Options}

-- The position whose stake is larger than both others, of the stakes of the positions 0, 1 and 2; any tie for largest goes to the seated guest.
unfoldable pub largest_stake : ℕ → ℕ → ℕ → ℕ
largest_stake a b c = cond (ltb a b && ltb c b) 1 (cond (ltb a c && ltb b c) 2 0)

-- The position that decides: 1 the seated guest's, 2 that of the largest stake.
unfoldable pub deciding_position : Options → ℕ → ℕ → ℕ → ℕ
deciding_position o a b c = cond (eqb o.decider 1) 0 (largest_stake a b c)
