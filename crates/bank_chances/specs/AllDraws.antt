-- Request 2.10: with n left the eight counts sum to n (n − 1) … (n − k + 1), whatever the bank has and whatever is left.
use Rattle.std.specs.Prelude.{◌≡◌, List, ℕ, length}
use Rattle.lists.specs.Sum.{sum_of}
use Rattle.bank_chances.specs.Draws.{falling}
use Rattle.bank_chances.specs.Chances.{counts_of}

abbrev pub SumToAll : Type 0
SumToAll = (bank cards : List ℕ) (k : ℕ) → sum_of (λ count. count) (counts_of bank cards k) ≡ falling (length cards) k
