-- Document 01, "Who can bring about which number": lowest number first. A call's conditions stand in the paper's order, one list for each call.
use Rattle.std.specs.Prelude.{◌≡◌, Bool, true, false, cond, List, [], ◌∷◌, ◌++◌, ℕ}
use Rattle.std.specs.Prelude.{◌<◌, Result, Ok, Err, MatchResult}
use Rattle.call.specs.declared.refusal.NoRefusal.{NoRefusal}
use Rattle.lists.specs.Tests.{any_of}
use Rattle.call.specs.declared.refusal.Refusal.{Refusal}
use Rattle.call.specs.declared.refusal.Refusal.TheVariants.{Broken, WrongOptions, WrongOrder, RoundDealt, NoRound, NothingStaked, HandWaits, NoSeat, LaidAlready, NoStake, NotInTurn, TooLate, Barred, WrongAmount, ShortPurse, ShortTray, ShortShoe, NoCards, NoPair, HandsUsedUp, NoSideKind, NoPosition, NotDeciding, FileLength, FileCheck, FileContent, WrongDepth, Taken, NotHere}

-- A number, and whether its condition holds.
abbrev pub Condition : Type 0
Condition = ℕ × Bool

-- A number where its condition holds, else what is asked behind it.
abbrev pub asked : ℕ → Bool → ℕ → ℕ
asked number holds later = cond holds number later

-- The first number whose condition holds; 0 where none does, and the call is accepted.
unfoldable pub first : List Condition → ℕ
first [] = 0
first (c ∷ cs) = asked c.0 c.1 (first cs)

abbrev pub holds : Condition → Bool
holds c = c.1

-- The number of a refusal, and of what a call gives: 0 where it is accepted.
abbrev pub number_of : Refusal → ℕ
number_of Broken = 1
number_of WrongOptions = 2
number_of WrongOrder = 3
number_of RoundDealt = 4
number_of NoRound = 5
number_of NothingStaked = 6
number_of HandWaits = 7
number_of NoSeat = 8
number_of LaidAlready = 9
number_of NoStake = 10
number_of NotInTurn = 11
number_of TooLate = 12
number_of Barred = 13
number_of WrongAmount = 14
number_of ShortPurse = 15
number_of ShortTray = 16
number_of ShortShoe = 17
number_of NoCards = 18
number_of NoPair = 19
number_of HandsUsedUp = 20
number_of NoSideKind = 21
number_of NoPosition = 22
number_of NotDeciding = 23
number_of FileLength = 24
number_of FileCheck = 25
number_of FileContent = 26
number_of WrongDepth = 27
number_of Taken = 28
number_of NotHere = 29

-- The refusal of a number, where one has it: 1 to 29.
abbrev pub NumberOf : ℕ → Result Refusal NoRefusal → Type 0
NumberOf n r = MatchResult r (λ why. number_of why ≡ n) (λ none. (none.0 ≡ n) × (0 < n → 29 < n))

abbrev pub number_in : {T : Type 0} → Result T Refusal → ℕ
number_in (Ok _) = 0
number_in (Err why) = number_of why

-- A refusal with its condition, by its number.
abbrev pub numbered : Refusal × Bool → Condition
numbered c = (number_of c.0, c.1)

-- The condition of number n stands in the list and holds, and none before it does.
pub record FirstAt (cs : List Condition) (n : ℕ) : Type 0 where
  pub before : List Condition
  pub after : List Condition
  pub here : cs ≡ before ++ (n, true) ∷ after
  pub none : any_of holds before ≡ false
