-- Request 2.11: "the lists of at most 8 in-turn decisions, all accepted, that leave no hand waiting; a list after which close would give 18 is left out". Said of one list, by
-- the engine's own run of its calls. Close gives 0 exactly where no hand waits, which is 7, and it would not give 18 (`CloseSays`, Laws.antt).
use Rattle.std.specs.Prelude.{Bool, ◌&&◌, List, [], ℕ, leb, eqb, length}
use Rattle.lists.specs.Tests.{all_of, first_place}
use Rattle.call.specs.declared.At.{At}
use Rattle.call.specs.declared.Call.TheVariants.{Close}
use Rattle.table.specs.declared.Table.{Table}
use Rattle.table.specs.Seat.{is_staked}
use Rattle.engine.specs.Step.{number}
use Rattle.engine.specs.Run.{run, answers}
use Rattle.ways.specs.Decisions.{is_decision, plays}

-- The seated guest of the staked seat plays.
abbrev pub player : Table → At
player t = record { seat = first_place is_staked t.seats; position = 0 }

abbrev pub most_decisions : ℕ
most_decisions = 8

-- At most n decisions of that guest, all accepted, behind which close is accepted.
unfoldable pub lawful_within : ℕ → Table → At → List ℕ → Bool
lawful_within n t at decisions =
    leb (length decisions) n
    && all_of is_decision decisions
    && all_of (λ a. eqb a.number 0) (answers t (plays at decisions))
    && eqb (number (run t (plays at decisions)) Close []) 0

abbrev pub lawful : Table → List ℕ → Bool
lawful t decisions = lawful_within most_decisions t (player t) decisions
