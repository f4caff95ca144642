-- A wrong length is refused. The counts are lent; where they are not 52 the number is 3, as for a wrong count.
use Rattle.std.specs.Prelude.{cond, List, ℕ, eqb, length, replicate}
use Rattle.bank_chances.specs.declared.BankChances.{BankChances}
use Rattle.bank_chances.specs.Chances.{make_chances, chances_of}

unfoldable pub chances_by : ℕ → List ℕ → ℕ → BankChances
chances_by up left depth = cond (eqb (length left) 52) (chances_of up left depth) (make_chances 3 0 (replicate 8 0))
