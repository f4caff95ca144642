-- A call of one seat that shows scores: those of the seat that it gives back are those of the seat on the table that it leaves.
use mathlib.Core.Path.{◌≡◌, sym, ◌∙◌, ap}
use mathlib.Core.Bool.{cond}
use mathlib.Core.List.{List, []}
use Prim.Native.Nat.{ℕ, ◌<◌}
use native.Mathlib.Omega.{arith}
use lib.Dec.{eqb}
use lib.ListN.{length}
use lib.Seq.{get_or-set_same}
use borrow.Author.Tests.{ne_eqb}
use Rattle.std.specs.Prelude.{Result, Ok, Err}
use Rattle.cards.specs.declared.score.HandScore.{HandScore}
use Rattle.call.specs.declared.refusal.Refusal.{Refusal}
use Rattle.call.specs.Refusal.{Condition, number_of, first}
use Rattle.call.proofs.Refusals.{refusal_some}
use Rattle.table.specs.declared.Table.{Table}
use Rattle.table.specs.Seat.{missing_seat}
use Rattle.table.specs.Table.{seat_at}
use Rattle.decisions_spec.specs.Turn.{waiting_place_of}
use Rattle.answer.specs.declared.moved.Moved.{Moved}
use Rattle.draw.specs.Told.{Told}
use Rattle.answer.specs.declared.outcome.Outcome.{Outcome}
use Rattle.answer.specs.Moved.{moved_table, moved_outcome}
use Rattle.answer.specs.Outcome.{make_outcome, outcome}
use Rattle.engine.specs.Scores.{card_scores, split_scores}
use Rattle.engine.specs.Aids.MovedScores.{shown_by, moved_card, moved_split}

module _ (t : Table) (j : ℕ) (conditions : List Condition) (effect : Table) (full : length t.seats ≡ 9) where
  -- an accepted call has moved its effect; its seat there is the one that it gave back
  module _ (m : Moved) (called : make_outcome 0 (moved_table t j m) ≡ outcome conditions effect t) (told : (j < 9) × (m.hand ≡ waiting_place_of t j)) where
    none : 0 ≡ first conditions
    unfolding outcome
    none = ap (λ (x : Outcome). x.number) called

    left : seat_at effect j ≡ m.seat
    unfolding outcome
    left =
        let moves : moved_table t j m ≡ effect = ap (λ (x : Outcome). x.table) called ∙ rw (← none) in
        ap (λ (x : Table). seat_at x j) (sym moves) ∙ get_or-set_same t.seats j m.seat missing_seat (omega (arith, full, told.0))

  -- a refused one shows none
  refused : (why : Refusal) (ss : List HandScore) → make_outcome (number_of why) t ≡ outcome conditions effect t → [] ≡ cond (eqb (first conditions) 0) ss []
  unfolding outcome
  refused why ss called =
      let same : number_of why ≡ first conditions = ap (λ (x : Outcome). x.number) called in
      rw (← same, ne_eqb (number_of why) 0 (refusal_some why))

  pub card_shown_lem : (r : Result Moved Refusal) → moved_outcome t j r ≡ outcome conditions effect t → Told t j r
      → shown_by moved_card r ≡ cond (eqb (first conditions) 0) (card_scores t j effect) []
  card_shown_lem (Ok m) called told = rw (← none m called told, left m called told, told.1)
  card_shown_lem (Err why) called told = refused why _ called

  pub split-shown : (r : Result Moved Refusal) → moved_outcome t j r ≡ outcome conditions effect t → Told t j r
      → shown_by moved_split r ≡ cond (eqb (first conditions) 0) (split_scores t j effect) []
  split-shown (Ok m) called told = rw (← none m called told, left m called told, told.1)
  split-shown (Err why) called told = refused why _ called
