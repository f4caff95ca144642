-- The writer's answer to the call of these numbers; a call of unknown kind is none that a file can hold.
use Rattle.std.proofs.Common.{◌≡◌, refl, ◌∙◌, ap, List, ℕ, [], ◌∷◌, length, get_or, arith, rules}
use Rattle.call.specs.declared.Call.{Call}
use Rattle.file_spec.specs.Writer.{Written, added}
use Rattle.file_writer.specs.declared.writer.Writer.{Writer}
use Rattle.file_writer.specs.Writer.{calls_of}
use Rattle.discgauze.specs.Calls.{unknown_kind, call_by}
use Rattle.discgauze.specs.File.{added_by}
use Rattle.discgauze.proofs.Unknown.{added_by_lem}
use Rattle.discgauze.proofs.file.discgauze_file_add.Goals as goal

-- what the writer gives for the call that the numbers name
by_numbers : (w : Writer) (kind seat position amount : ℕ) (order : List ℕ) (c : Call) (view : Written) → c ≡ call_by kind seat position amount
    → view ≡ added w.options w.many (calls_of w) (record { call = c; order = order }) → view ≡ added_by w kind seat position amount order
by_numbers w kind seat position amount order c view named e =
    e ∙ ap (λ (x : Call). added w.options w.many (calls_of w) (record { call = x; order = order })) named ∙ added_by_lem w kind seat position amount order (unknown_kind kind) refl

both_blocks : (blocks : List (List ℕ)) → length blocks ≡ 2 → get_or blocks 0 [] ∷ get_or blocks 1 [] ∷ [] ≡ blocks
both_blocks [] two = absurd (omega arith)
both_blocks (a ∷ []) two = absurd (omega arith)
both_blocks (a ∷ b ∷ []) two = refl
both_blocks (a ∷ b ∷ c ∷ more) two = absurd (omega arith)

pub returns-in-Ok-None : goal.returns-in-Ok-None
returns-in-Ok-None c =
    let a = c.args in
    record {
      same = by_numbers a.writer a.kind a.seat a.position a.amount a.order.now c.call_by.result _ c.call_by.ensures (rw c.in-Ok-None.field-0-is at c.in-Ok-None.ensures.gives);
      options = c.add.ensures.options;
    }

pub returns-in-Ok-One : goal.returns-in-Ok-One
returns-in-Ok-One c =
    let a = c.args in
    record {
      same = by_numbers a.writer a.kind a.seat a.position a.amount a.order.now c.call_by.result _ c.call_by.ensures (rw c.in-Ok-One.field-0-is at c.in-Ok-One.ensures.gives);
      options = c.add.ensures.options;
    }

pub returns-in-Ok-Two : goal.returns-in-Ok-Two
returns-in-Ok-Two c =
    let a = c.args in
    let two : length c.in-Ok-Two.both ≡ 2 = search rules in
    record {
      same = rw (both_blocks c.in-Ok-Two.both two) (by_numbers a.writer a.kind a.seat a.position a.amount a.order.now c.call_by.result _ c.call_by.ensures (rw c.in-Ok-Two.field-0-is at c.in-Ok-Two.ensures.gives));
      options = c.add.ensures.options;
    }

pub returns-in-Err : goal.returns-in-Err
returns-in-Err c =
    let a = c.args in
    record {
      same = rw c.number.ensures (by_numbers a.writer a.kind a.seat a.position a.amount a.order.now c.call_by.result _ c.call_by.ensures c.in-Err.ensures.gives);
      options = c.add.ensures.options;
    }
