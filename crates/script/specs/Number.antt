-- A number in decimal, in ASCII letters.
use Rattle.std.specs.Prelude.{cond, ◌&&◌, List, [], ◌∷◌, ℕ, ◌+◌, ◌-◌, ◌*◌, ltb, leb, eqb}

-- The digits are the letters 48 to 57; any other letter counts as 0.
unfoldable pub digit_of : ℕ → ℕ
digit_of letter = cond (leb 48 letter && leb letter 57) (letter - 48) 0

-- One digit more behind a number, a space (32) left aside. A number past 10^15 takes no more.
unfoldable pub with_digit : ℕ → ℕ → ℕ
with_digit n letter = cond (eqb letter 32) n (cond (ltb 1000000000000000 n) n (10 * n + digit_of letter))

unfoldable pub read_on : ℕ → List ℕ → ℕ
read_on n [] = n
read_on n (letter ∷ letters) = read_on (with_digit n letter) letters

-- The number that the letters write.
abbrev pub number_of : List ℕ → ℕ
number_of letters = read_on 0 letters
