-- A line ends at a line feed (10), or at the text's end.
use Rattle.std.specs.Prelude.{◌≡◌, Bool, cond, List, [], ◌∷◌, ℕ, ◌+◌, eqb, ltb, length, take, drop}
use Rattle.std.specs.List.{slice_split}
use Rattle.lists.specs.Tests.{first_place}

abbrev pub ends_line : ℕ → Bool
ends_line letter = eqb letter 10

-- The end of the line through a place; a place past the text is its own end.
abbrev pub line_end : List ℕ → ℕ → ℕ
line_end text at = at + first_place ends_line (drop at text)

-- The lines of a text, cut at its line feeds as the library's `split` cuts them, by which the programs of scripts read.
abbrev pub lines_of : List ℕ → List (List ℕ)
lines_of text = slice_split ends_line text

-- They end where a line ends: the first at the end of the line through place 0, and behind a line feed come the lines of the rest.
abbrev pub LinesEnd : List ℕ → Type 0
LinesEnd text = lines_of text ≡ take (line_end text 0) text ∷ cond (ltb (line_end text 0) (length text)) (lines_of (drop (line_end text 0 + 1) text)) []
