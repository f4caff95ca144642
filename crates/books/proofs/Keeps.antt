-- Every accepted call keeps any sound table sound, reached or not.
use mathlib.Core.Path.{ap}
use mathlib.Core.Bool.{not}
use mathlib.Core.List.{List}
use Prim.Native.Nat.{ℕ}
use borrow.Author.Tests.{not-false}
use Rattle.call.specs.declared.Call.{Call}
use Rattle.table.specs.declared.Table.{Table}
use Rattle.table.specs.Broken.{sound}
use Rattle.table.proofs.Facts.{sound_facts, facts_sound}
use Rattle.answer.specs.Reply.{reply_by}
use Rattle.engine.specs.Step.{number, step}
use Rattle.books.specs.Laws.{Keeps}
use Rattle.books.proofs.Steps.{step_kept}

pub keeps : (t : Table) (c : Call) (order : List ℕ) → Keeps t c order
unfolding number step reply_by
keeps t c order whole e =
    let facts = sound_facts t (not-false (sound t) whole.sound) in
    let (shaped, kept) = step_kept t c order whole.shaped facts e in
    record { shaped = shaped; sound = ap not (facts_sound _ shaped.bank kept) }
