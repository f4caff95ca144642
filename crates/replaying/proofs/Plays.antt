-- A step keeps a whole table whole; an opened table is whole; a reader goes on to a later place; and what is left to play, call by call.
use mathlib.Core.Path.{◌≡◌, refl, sym, ap, ap₂, ◌∙◌}
use mathlib.Core.Bool.{true, false, not, ◌&&◌, true≢false}
use mathlib.Core.List.{List, [], ◌∷◌}
use Prim.Native.Nat.{ℕ, suc, ◌%◌, ◌≤◌, ◌<◌}
use native.Mathlib.Decide.{ℕ_discrete}
use native.Mathlib.Omega.{arith}
use borrow.Author.Tests.{eq-eqb, ne_eqb, lt-ltb}
use lib.IntN.{ℤ}
use lib.ListN.{length, get_or}
use Rattle.lists.specs.Tests.{all_of}
use Rattle.file_spec.specs.Block.{Bytes}
use Rattle.call.specs.declared.Call.{Call}
use Rattle.options.specs.declared.Options.{Options}
use Rattle.table.specs.declared.Table.{Table}
use Rattle.table.proofs.Facts.{facts_sound}
use Rattle.history.specs.Entry.{Entry}
use Rattle.answer.specs.declared.reply.Answer.{Answer}
use Rattle.answer.specs.Reply.{reply_by, given_by, given_of, reply_of}
use Rattle.call.specs.Refusal.{first}
use Rattle.cashier_spec.specs.Opening.{open_number, opened}
use Rattle.cashier_spec.proofs.Opening.{open_good}
use Rattle.engine.specs.Step.{step, number, next, conditions, effect}
use Rattle.engine.specs.Run.{run}
use Rattle.books.specs.Laws.{Whole}
use Rattle.books.proofs.Keeps.{keeps}
use Rattle.file_spec.specs.Number.{or_else, file_number}
use Rattle.file_spec.specs.Reader.{call_place, first_place, handed_at, Reads}
use Rattle.replaying.specs.Playing.{play_number, first_table}
use Rattle.replaying.specs.Aids.Turns.{Rest, Left}

-- the next table, accepted or refused
next-effect : (t : Table) (c : Call) (order : List ℕ) → number t c order ≡ 0 → next t c order ≡ effect t c order
unfolding next number step reply_by
next-effect t c order e = rw (eq-eqb (first (conditions t c order)) 0 e)

next-same : (t : Table) (c : Call) (order : List ℕ) → (number t c order ≡ 0 → ⊥) → next t c order ≡ t
unfolding next number step reply_by
next-same t c order n = rw (ne_eqb (first (conditions t c order)) 0 n)

pub next-whole : (t : Table) (c : Call) (order : List ℕ) → Whole t → Whole (next t c order)
next-whole t c order whole = go (ℕ_discrete (number t c order) 0)
  where
    go : Dec (number t c order ≡ 0) → Whole (next t c order)
    go (yes e) = rw (next-effect t c order e) (keeps t c order whole e)
    go (no n) = rw (next-same t c order n) whole

-- the table that a step of the definition leaves
pub left_next : (t : Table) (c : Call) (order : List ℕ) (answer : Answer) (u : Table) (names names₀ : List ℕ) (nets nets₀ : List ℤ)
    → given_of (reply_of answer u) names nets ≡ given_by (step t c order) names₀ nets₀ → u ≡ next t c order
unfolding next
left_next t c order answer u names names₀ nets nets₀ e = ap (λ g. g.table) e

pub open_whole : (o : Options) (order : List ℕ) → open_number o order ≡ 0 → Whole (opened o order)
open_whole o order e =
    let good = open_good o order e in
    record { shaped = good.shaped; sound = ap not (facts_sound (opened o order) good.shaped.bank good.sound) }

-- a reader of a file that is not refused begins at its first call
pub first_call : (file : List ℕ) → file_number file ≡ 0 → call_place file 512 ≡ first_place file
unfolding first_place
first_call file e = rw (eq-eqb (file_number file) 0 e)

-- what is left, one call further and at the end
module _ (file : List ℕ) (at : ℕ) (t : Table) (calls : List Entry) where
  pub rest-next : (handed_at file at).found ≡ true → Rest file at t calls
      → Rest file (handed_at file at).behind (next t (handed_at file at).call (handed_at file at).order) calls
  unfolding Reads run
  rest-next found left = go left.rest left.reads left.same
    where
      go : (rest : List Entry) → Reads file at rest → run t rest ≡ run (first_table file) calls
          → Rest file (handed_at file at).behind (next t (handed_at file at).call (handed_at file at).order) calls
      go [] none same = absurd (true≢false (sym found ∙ none))
      go (e ∷ es) (f, call, order, more) same = record { rest = es; reads = more; same = rw (call, order) same }

  pub rest_end : (handed_at file at).found ≡ false → Rest file at t calls → t ≡ run (first_table file) calls
  unfolding Reads run
  rest_end none left = go left.rest left.reads left.same
    where
      go : (rest : List Entry) → Reads file at rest → run t rest ≡ run (first_table file) calls → t ≡ run (first_table file) calls
      go [] found same = same
      go (e ∷ es) (found, call, order, more) same = absurd (true≢false (sym found ∙ none))

-- a file that is not refused has a block
pub has_block : (file : List ℕ) → file_number file ≡ 0 → 512 ≤ length file
unfolding file_number
has_block file e = go (ℕ_discrete (length file) 0) (ℕ_discrete (length file % 512) 0)
  where
    go : Dec (length file ≡ 0) → Dec (length file % 512 ≡ 0) → 512 ≤ length file
    go (yes none) whole = let z : ◌≡◌ {A = ℕ} 24 0 = rw (eq-eqb (length file) 0 none) at e in absurd (omega arith)
    go (no some) (no part) = let z : ◌≡◌ {A = ℕ} 24 0 = rw (ne_eqb (length file) 0 some, ne_eqb (length file % 512) 0 part) at e in absurd (omega arith)
    go (no some) (yes whole) = omega arith

-- a lent file has bytes
pub all_bytes : (file : List ℕ) → ((i : ℕ) → get_or file i 0 < 256) → Bytes file
unfolding all_of
all_bytes [] h = refl
all_bytes (b ∷ bytes) h = ap₂ ◌&&◌ (lt-ltb b 256 (h 0)) (all_bytes bytes (λ i. h (suc i)))

-- before the first turn all calls are left
pub begins : (file : List ℕ) (t : Table) (at : ℕ) → play_number file ≡ 0 → t ≡ first_table file → at ≡ call_place file 512 → Left file at t
begins file t at e same place calls reads =
    let right : file_number file ≡ 0 = only_zero (file_number file) _ e in
    record { rest = calls; reads = rw (place ∙ first_call file right) reads; same = ap (λ (x : Table). run x calls) same }
  where
    only_zero : (n m : ℕ) → or_else n m ≡ 0 → n ≡ 0
    only_zero n m h = pick (ℕ_discrete n 0)
      where
        pick : Dec (n ≡ 0) → n ≡ 0
        pick (yes z) = z
        pick (no z) = rw (ne_eqb n 0 z) at h
