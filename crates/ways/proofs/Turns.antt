-- A call tried on a table: an accepted one leaves it whole; and how many lists begin with a decision.
use mathlib.Core.Path.{◌≡◌, sym, ◌∙◌, ap, subst}
use mathlib.Core.Bool.{true, false, true≢false}
use mathlib.Core.List.{List, [], ◌∷◌}
use Prim.Native.Nat.{ℕ, suc, ◌+◌, ◌<◌}
use lib.ListN.{length, take, get_or}
use borrow.Author.Tests.{ne_eqb}
use Rattle.std.specs.Prelude.{Result, Ok, Err}
use Rattle.std.specs.Result.{is_ok}
use Rattle.lists.specs.Sum.{sum_of}
use Rattle.call.specs.declared.At.{At}
use Rattle.call.specs.declared.Call.{Call}
use Rattle.call.specs.declared.Call.TheVariants.{Close}
use Rattle.table.specs.declared.Table.{Table}
use Rattle.call.specs.declared.refusal.Refusal.{Refusal}
use Rattle.call.specs.Refusal.{first, number_in}
use Rattle.call.proofs.Refusals.{refusal_some}
use Rattle.answer.specs.Reply.{reply_by}
use Rattle.books.specs.Laws.{Whole}
use Rattle.books.proofs.Keeps.{keeps}
use Rattle.engine.specs.Step.{step, number, next, conditions, effect}
use Rattle.ways.specs.Decisions.{decision_kinds, decision}
use Rattle.ways.specs.Ways.{ways_from}
use Rattle.ways.specs.Aids.Picked.{GoesOn}
use Rattle.ways.proofs.Counting.{begun, accepted-begun, refused-begun, goes_at}

-- an accepted call leaves its effect
pub accepted-next : (t : Table) (c : Call) (order : List ℕ) → number t c order ≡ 0 → next t c order ≡ effect t c order
unfolding step number next reply_by
accepted-next t c order e = simp e

-- a refused one leaves the table
pub next-same : (t : Table) (c : Call) (order : List ℕ) → (number t c order ≡ 0 → ⊥) → next t c order ≡ t
unfolding next number step reply_by
next-same t c order some = simp (ne_eqb (first (conditions t c order)) 0 some)

pub next-whole : (t : Table) (c : Call) → Whole t → number t c [] ≡ 0 → Whole (next t c [])
next-whole t c whole e = subst Whole (sym (accepted-next t c [] e)) (keeps t c [] whole e)

-- what an answer says of a call's number
pub ok_number : {T : Type 0} (r : Result T Refusal) {n : ℕ} → number_in r ≡ n → is_ok r ≡ true → n ≡ 0
ok_number (Ok _) told e = sym told
ok_number (Err why) told e = absurd (true≢false (sym e))

pub err_number : {T : Type 0} (r : Result T Refusal) {n : ℕ} → number_in r ≡ n → is_ok r ≡ false → n ≡ 0 → ⊥
err_number (Ok _) told e = absurd (true≢false e)
err_number (Err why) told e = λ z. refusal_some why (told ∙ z)

-- a decision that is accepted, u being the table after it, and one that is refused
module _ (t : Table) (at : At) (kind n i : ℕ) (same : kind ≡ get_or decision_kinds i 0) where
  pub decided-begun : (u : Table) → number t (decision at kind) [] ≡ 0 → u ≡ next t (decision at kind) [] → length (ways_from n at u) ≡ begun n at t (get_or decision_kinds i 0)
  decided-begun u accept after =
      ap (λ (x : Table). length (ways_from n at x)) after
      ∙ sym (accepted-begun at t n kind accept)
      ∙ ap (begun n at t) same

  pub refused-none : (number t (decision at kind) [] ≡ 0 → ⊥) → begun n at t (get_or decision_kinds i 0) ≡ 0
  refused-none some = ap (begun n at t) (sym same) ∙ refused-begun at t n kind some

  -- the list at a place behind those that begin with one of the first i goes on with this decision
  pub decided_goes_on : (u : Table) → number t (decision at kind) [] ≡ 0 → u ≡ next t (decision at kind) [] → (place rest : ℕ) → i < 6 → number t Close [] ≡ 7
      → place ≡ sum_of (begun n at t) (take i decision_kinds) + rest → rest < length (ways_from n at u) → GoesOn t at n place (record { kind = kind; table = u; place = rest })
  decided_goes_on u accept after place rest h waits e inside =
      let lists = ap (λ (x : Table). ways_from n at x) after in
      record {
        begins =
            ap (λ (k : ℕ). get_or (ways_from (suc n) at t) k []) e
            ∙ goes_at at t n waits i rest kind h same accept (subst (λ (l : List (List ℕ)). rest < length l) lists inside)
            ∙ ap (λ (l : List (List ℕ)). kind ∷ get_or l rest []) (sym lists);
        inside = inside;
        accepted = accept;
        after = after;
      }
