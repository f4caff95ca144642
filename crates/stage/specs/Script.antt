-- What a script's text has, and what a program does with it.
use Rattle.std.specs.Prelude.{◌≡◌, Bool, List, ℕ, nat_le, length, take, drop, filter, Result, IsOk, Option, IfSome}
use Rattle.std.specs.Fn.{Shared}
use denote.Ref.{MutBor}
use Rattle.script.specs.Lines.{lines_of}
use Rattle.stage.specs.declared.row.Row.{Row}

-- A line that is a row: it is long enough for the letters in front.
abbrev pub is_row : List ℕ → Bool
is_row line = nat_le 21 (length line)

-- The rows of a text, which are lines of it.
abbrev pub rows_in : List ℕ → List (List ℕ)
rows_in text = filter is_row (lines_of text)

-- What is read of a script: of one whose letters are known, the first 65536 of them.
abbrev pub IsRead : Option (List ℕ) → List ℕ → Type 0
IsRead known text = IfSome known (λ letters. text ≡ take 65536 letters)

-- A call of f takes the row of a line, and succeeds; p and q are what is written to and what is kept from row to row, before the call and after it.
pub record TakesRow {F W S E : Type 0} (g : Shared F (MutBor W × (MutBor S × (Row × Unit {0}))) (Result (Unit {0}) E × (MutBor W × (MutBor S × Unit {0})))) (f : F) (p : W × S) (line : List ℕ) (q : W × S) : Type 0 where
  pub out : MutBor W
  pub state : MutBor S
  pub row : Row
  pub shows : (out.now ≡ p.0) × (state.now ≡ p.1)
  pub reads : (row.letters.now ≡ line) × (row.front.now ≡ take 21 line) × (row.words.now ≡ drop 21 line)
  pub left : MutBor W × (MutBor S × Unit {0})
  pub result : Result (Unit {0}) E
  pub met : g.post f (out, (state, (row, tt))) (result, left)
  pub succeeds : IsOk result
  pub leaves : (left.0.now ≡ q.0) × (left.1.0.now ≡ q.1)
