-- The scores of hands that a call of one seat shows, by what it has moved: the seat after it, and the place of the hand that it was about. A refused call shows none.
use Rattle.std.specs.Prelude.{List, [], ◌∷◌, suc, Result, Ok, Err}
use Rattle.cards.specs.declared.score.HandScore.{HandScore}
use Rattle.call.specs.declared.refusal.Refusal.{Refusal}
use Rattle.answer.specs.declared.moved.Moved.{Moved}
use Rattle.engine.specs.Scores.{place_score}

abbrev pub moved_card : Moved → List HandScore
moved_card m = place_score m.seat m.hand ∷ []

abbrev pub moved_split : Moved → List HandScore
moved_split m = place_score m.seat m.hand ∷ place_score m.seat (suc m.hand) ∷ []

abbrev pub shown_by : (Moved → List HandScore) → Result Moved Refusal → List HandScore
shown_by shows (Ok m) = shows m
shown_by shows (Err why) = []
