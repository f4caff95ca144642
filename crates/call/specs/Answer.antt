-- Document 01, "Payment" and "Who can bring about which number", and request 2.1: what a call answers. Only close shows cards and lines.
use Rattle.std.specs.Prelude.{List, [], ℕ}
use Rattle.cards.specs.declared.score.HandScore.{HandScore}
use Rattle.call.specs.PayLine.{PayLine}

-- What a call shows: the bank's cards, the pay lines, and the scores that the dealer calls aloud.
pub record Shown : Type 0 where
  pub bank : List ℕ
  pub lines : List PayLine
  pub scores : List HandScore

-- Scores and nothing else; nothing at all.
abbrev pub scored : List HandScore → Shown
scored scores = record { bank = []; lines = []; scores = scores }

abbrev pub empty_shown : Shown
empty_shown = scored []

-- The number and what is shown.
pub record Answer : Type 0 where
  pub number : ℕ
  pub shown : Shown
