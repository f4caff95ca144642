-- Laws of numbers: reading letter by letter is a fold.
use Rattle.std.proofs.Common.{◌≡◌, refl, List, [], ◌∷◌, ℕ}
use Rattle.std.specs.List.{fold}
use Rattle.script.specs.Number.{with_digit, read_on}

pub fold-read_on : (n : ℕ) (text : List ℕ) → fold with_digit n text ≡ read_on n text
unfolding read_on
fold-read_on n [] = refl
fold-read_on n (letter ∷ letters) = fold-read_on (with_digit n letter) letters
