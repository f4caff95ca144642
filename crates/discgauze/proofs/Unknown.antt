-- A kind that is none names no call that a file can hold, and a step of it gives the number and nothing else.
use mathlib.Core.Path.{◌≡◌, refl, sym, ◌∙◌, ap, subst}
use mathlib.Core.Bool.{Bool, true, false, ◌||◌, or-true, true≢false}
use mathlib.Core.List.{List}
use Prim.Native.Nat.{ℕ, ◌<◌, ◌-◌}
use native.Mathlib.Omega.{arith}
use borrow.Author.Tests.{ltb-true, eqb-true, ne_eqb, lt-leb, le-leb}
use lib.Dec.{ltb, eqb}
use lib.IntN.{ℤ}
use Rattle.call.specs.declared.At.{At}
use Rattle.call.specs.declared.Call.{Call}
use Rattle.table.specs.declared.Table.{Table}
use Rattle.answer.specs.declared.reply.Reply.{Reply}
use Rattle.answer.specs.Outcome.{make_outcome}
use Rattle.answer.specs.Reply.{Given, given_by, given_of, plain_reply}
use Rattle.engine.specs.Step.{step}
use Rattle.file_spec.specs.CallBlock.{call_of}
use Rattle.file_spec.specs.File.{known_kind, writable}
use Rattle.file_spec.specs.Writer.{unwritten, added}
use Rattle.file_writer.specs.declared.writer.Writer.{Writer}
use Rattle.file_writer.specs.Writer.{calls_of}
use Rattle.discgauze.specs.Calls.{unknown_kind, call_by, step_by}
use Rattle.discgauze.specs.File.{added_by}

zero_none : (at : At) (n : ℕ) → known_kind (call_of 0 at n) ≡ false
unfolding call_of known_kind
zero_none at n = refl

past_none : (k : ℕ) (at : At) (n : ℕ) → 21 < k → known_kind (call_of k at n) ≡ false
unfolding call_of known_kind
past_none k at n h =
    let no : (i : ℕ) → i < 18 → eqb k i ≡ false = λ i small. ne_eqb k i (λ e. omega arith) in
    simp (no 1 (omega arith), no 2 (omega arith), no 3 (omega arith), no 4 (omega arith), no 5 (omega arith), no 6 (omega arith), no 7 (omega arith), no 8 (omega arith), no 9 (omega arith), no 10 (omega arith), no 11 (omega arith), no 12 (omega arith), no 13 (omega arith), no 14 (omega arith), no 15 (omega arith), no 16 (omega arith), no 17 (omega arith), le-leb 1 (k - 17) (omega arith), lt-leb (k - 17) 4 (omega arith))

none-known : (k : ℕ) (at : At) (n : ℕ) (zero past : Bool) → eqb k 0 ≡ zero → ltb 21 k ≡ past → zero || past ≡ true → known_kind (call_of k at n) ≡ false
none-known k at n true past z p e = subst (λ (j : ℕ). known_kind (call_of j at n) ≡ false) (sym (eqb-true k 0 z)) (zero_none at n)
none-known k at n false true z p e = past_none k at n (ltb-true 21 k p)
none-known k at n false false z p e = absurd (true≢false (sym e))

-- so the writer refuses it
pub not_added : (w : Writer) (k seat position n : ℕ) (order : List ℕ) → unknown_kind k ≡ true
    → added w.options w.many (calls_of w) (record { call = call_by k seat position n; order = order }) ≡ unwritten w.many (calls_of w)
unfolding added writable
not_added w k seat position n order e =
    simp (none-known k (record { seat = seat; position = position }) n (eqb k 0) (ltb 21 k) refl refl e, or-true)

pub added_by_lem : (w : Writer) (k seat position n : ℕ) (order : List ℕ) (unknown : Bool) → unknown_kind k ≡ unknown
    → added w.options w.many (calls_of w) (record { call = call_by k seat position n; order = order }) ≡ added_by w k seat position n order
unfolding added_by
added_by_lem w k seat position n order true e = not_added w k seat position n order e ∙ rw e
added_by_lem w k seat position n order false e = rw e

-- and a step leaves all as it was
pub unknown_step : (t : Table) (k seat position n : ℕ) (order names : List ℕ) (nets : List ℤ) (r : Reply) → unknown_kind k ≡ true → r ≡ plain_reply (make_outcome 255 t)
    → given_of r names nets ≡ given_by (step_by t k seat position n order) names nets
unfolding step_by
unknown_step t k seat position n order names nets r e made = ap (λ (x : Reply). given_of x names nets) made ∙ rw e

-- every other kind is its call's step
pub known_step : (t : Table) (k seat position n : ℕ) (order names : List ℕ) (nets : List ℤ) (c : Call) (g : Given) → unknown_kind k ≡ false → c ≡ call_by k seat position n
    → g ≡ given_by (step t c order) names nets → g ≡ given_by (step_by t k seat position n order) names nets
unfolding step_by
known_step t k seat position n order names nets c g known call e = e ∙ ap (λ (x : Call). given_by (step t x order) names nets) call ∙ rw known
