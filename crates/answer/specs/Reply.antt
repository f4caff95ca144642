-- Document 01, "Who can bring about which number" and "Payment": a call's answer and the table after it. A refused call leaves the table as it was and shows no
-- cards, no lines and no scores.
use Rattle.std.specs.Prelude.{cond, List, map, ℕ, eqb, ℤ, length}
use Rattle.std.proofs.lemmas.List.Edits.{sets}
use Rattle.call.specs.Refusal.{Condition, first}
use Rattle.call.specs.PayLine.{name_of}
use Rattle.call.specs.Answer.{Answer, Shown, empty_shown}
use Rattle.cards.specs.declared.hand.Hand.{Hand}
use Rattle.cards.specs.Hand.{cards_of, empty_hand}
use Rattle.cards.specs.declared.score.HandScore.{HandScore}
use Rattle.table.specs.declared.Table.{Table}
use Rattle.answer.specs.declared.outcome.Outcome.{Outcome}
use Rattle.answer.specs.declared.scores.Scores.{Scores}
use Rattle.answer.specs.declared.reply.Answer as code
use Rattle.answer.specs.declared.reply.Reply.{Reply}
use Rattle.answer.specs.Scores.{no_scores, scores_of}

-- The answer and the next table.
pub record ReplyView : Type 0 where
  pub answer : Answer
  pub table : Table

abbrev pub make_reply_view : ℕ → Shown → Table → ReplyView
make_reply_view number shown table = record { answer = record { number = number; shown = shown }; table = table }

-- The first number whose condition holds; at 0 what the call shows and its effect, else nothing and the table as it was.
unfoldable pub reply_by : List Condition → Shown → Table → Table → ReplyView
reply_by conditions shown effect refused =
    make_reply_view (first conditions) (cond (eqb (first conditions) 0) shown empty_shown) (cond (eqb (first conditions) 0) effect refused)

-- What the caller of a step has afterwards: the number, the bank's cards, the number of pay lines, the two arrays that it lent for their names and nets,
-- the scores, and the next table.
pub record Given : Type 0 where
  pub number : ℕ
  pub bank : List ℕ
  pub lines : ℕ
  pub names : List ℕ
  pub nets : List ℤ
  pub scores : List HandScore
  pub table : Table

-- By a reply of the definitions, where the arrays held these names and nets: the lines stand at their front, and behind them nothing has changed.
abbrev pub given_by : ReplyView → List ℕ → List ℤ → Given
given_by r names nets =
    let lines = r.answer.shown.lines in
    record {
      number = r.answer.number;
      bank = r.answer.shown.bank;
      lines = length lines;
      names = sets names 0 (map name_of lines);
      nets = sets nets 0 (map (λ l. l.net) lines);
      scores = r.answer.shown.scores;
      table = r.table;
    }

-- By a reply of the code, with the arrays as it left them.
abbrev pub given_of : Reply → List ℕ → List ℤ → Given
given_of r names nets =
    record {
      number = r.answer.number;
      bank = cards_of r.answer.bank;
      lines = r.answer.lines;
      names = names;
      nets = nets;
      scores = scores_of r.answer.scores;
      table = r.table;
    }

abbrev pub make_reply : ℕ → Hand → ℕ → Scores → Table → Reply
make_reply number bank lines scores table = record { answer = record { number = number; bank = bank; lines = lines; scores = scores }; table = table }

-- The answer and the next table, where each lies in a place of its own.
abbrev pub reply_of : code.Answer → Table → Reply
reply_of answer table = record { answer = answer; table = table }

-- The answer of a call that shows no more than scores, its reply, and that of a call that shows nothing.
abbrev pub scored_answer : ℕ → Scores → code.Answer
scored_answer number scores = record { number = number; bank = empty_hand; lines = 0; scores = scores }

abbrev pub scored_reply : Outcome → Scores → Reply
scored_reply o scores = reply_of (scored_answer o.number scores) o.table

abbrev pub plain_reply : Outcome → Reply
plain_reply o = scored_reply o no_scores
