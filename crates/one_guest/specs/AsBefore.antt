-- Request 2.8: "A seat with one seated guest answers as before." On every table on which the positions 1 and 2 hold nothing, each call of position 0 gives the answer and the table
-- that the rules for one guest give, and the positions 1 and 2 of the table after it hold nothing again.
use Rattle.std.specs.Prelude.{◌≡◌, cond, List, ℕ, ◌<◌, eqb, length, replicate}
use Rattle.call.specs.declared.Call.{Call}
use Rattle.call.specs.Call.{kind, position}
use Rattle.call.specs.Answer.{scored}
use Rattle.table.specs.declared.Table.{Table}
use Rattle.table.specs.Guest.{holding}
use Rattle.table.specs.Table.{seat_at}
use Rattle.answer.specs.Reply.{ReplyView, reply_by}
use Rattle.engine.specs.Scores.{hand_scores}
use Rattle.engine.specs.Step.{step, next}
use Rattle.one_guest.specs.Conditions.{conditions_one}
use Rattle.one_guest.specs.Effects.{effect_one, close_shown_one}

-- Nobody bets but seated guests: at every seat the two others hold nothing.
abbrev pub OnlySeated : Table → Type 0
OnlySeated t = (i : ℕ) → i < length t.seats → (seat_at t i).others ≡ replicate 2 (holding 0)

-- One step by the rules for one guest.
unfoldable pub step_one : Table → Call → List ℕ → ReplyView
step_one t c order = reply_by (conditions_one t c order) (cond (eqb (kind c) 15) (close_shown_one t) (scored (hand_scores t c (effect_one t c order)))) (effect_one t c order) t

-- What is claimed of such a table and a call of a seated guest, or of the house.
pub record AsBefore (t : Table) (c : Call) (order : List ℕ) : Type 0 where
  pub same_step : step t c order ≡ step_one t c order
  pub only_seated : OnlySeated (next t c order)

abbrev pub SeatedAsBefore : Type 0
SeatedAsBefore = (t : Table) (c : Call) (order : List ℕ) → position c ≡ 0 → OnlySeated t → AsBefore t c order
