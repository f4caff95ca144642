-- Pay lines written into the lent arrays from a place on: what each pass over hands and seats leaves there, and the place behind them.
use Rattle.std.specs.Prelude.{◌≡◌, List, map, ℕ, ◌+◌, ◌≤◌, ℤ, length}
use Rattle.std.proofs.lemmas.List.Edits.{sets}
use Rattle.call.specs.PayLine.{PayLine, name_of}
use Rattle.close.specs.declared.pay_lines.PayLines.{PayLines}

pub record LinesAt (names : List ℕ) (nets : List ℤ) (at : ℕ) (lines : List PayLine) (names-then : List ℕ) (nets-then : List ℤ) (behind : ℕ) : Type 0 where
  pub names_are : names-then ≡ sets names at (map name_of lines)
  pub nets_are : nets-then ≡ sets nets at (map (λ l. l.net) lines)
  pub behind_is : behind ≡ at + length lines

-- Pay lines put behind those that stand there, where there is room: the arrays stay the caller's.
pub record LinesPut (before : PayLines) (lines : List PayLine) (after : PayLines) : Type 0 where
  pub same_names : after.names.ghost_name ≡ before.names.ghost_name
  pub same_nets : after.nets.ghost_name ≡ before.nets.ghost_name
  pub put : before.at + length lines ≤ 243 → LinesAt before.names.now before.nets.now before.at lines after.names.now after.nets.now after.at
