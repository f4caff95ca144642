-- `play` goes call by call: before each turn what is left to play leads to the table of all calls, and the table is whole.
use Rattle.std.proofs.Common.{◌≡◌, sym, refl, ◌∙◌, ap, List, ℕ, Some, None}
use mathlib.Core.Path.{subst}
use mathlib.Core.Bool.{true, false}
use Rattle.engine.specs.Step.{next}
use Rattle.file_spec.specs.Reader.{handed_at}
use Rattle.session_file.specs.declared.reader.Reader.{Reader}
use Rattle.session_file.specs.Reader.{order_of, handed_of}
use Rattle.replaying.proofs.Plays.{begins, rest-next, rest_end, left_next}
use Rattle.replaying.proofs.play.Goals as goal

pub loop-handed-init : goal.loop-handed-init
loop-handed-init c =
    let opened = c.in_ok-table.ensures in
    let made = c.into_iter-handed-iterator.ensures.into_iter_gives in
    let reader = c.of_checked-handed-items.ensures in
    record {
      can = tt;
      ends = tt;
      file = ap (λ (r : Reader). r.file.now) made ∙ ap (λ f. f.now) reader.0;
      whole = opened.whole refl;
      left = begins c.args.file.now c.in_ok-table.table c.into_iter-handed-iterator.result.at (sym opened.number) (opened.table refl) (ap (λ (r : Reader). r.at) made ∙ reader.1);
    }

pub loop-handed-preserved : goal.loop-handed-preserved
loop-handed-preserved c =
    let file = c.args.file.now in
    let t = c.loop-handed.table in
    let at = c.loop-handed.handed-iterator.at in
    let h = c.in-Some.handed in
    let so_far = c.loop-handed.invariant in
    let step = c.in-Some.ensures.steps in
    let handed : handed_of file at (Some h) ≡ handed_at file at = subst (λ (f : List ℕ). handed_of f at (Some h) ≡ handed_at f at) so_far.file step.handed in
    let found : (handed_at file at).found ≡ true = ap (λ v. v.found) (sym handed) in
    let table : c.play_call.new.t ≡ next t (handed_at file at).call (handed_at file at).order
    = left_next t h.call (order_of file h) c.play_call.result c.play_call.new.t _ _ _ _ c.play_call.ensures.step ∙ ap (λ v. next t v.call v.order) handed in
    let behind : c.next.new.self.at ≡ (handed_at file at).behind = step.at ∙ ap (λ (f : List ℕ). (handed_at f at).behind) so_far.file in
    record {
      can = tt;
      ends = tt;
      file = ap (λ f. f.now) step.file ∙ so_far.file;
      whole = c.play_call.ensures.whole;
      left = λ calls reads. rw (table, behind) (rest-next file at t calls found (so_far.left calls reads));
    }

pub returns : goal.returns
returns c =
    let file = c.args.file.now in
    let at = c.loop-handed.handed-iterator.at in
    let so_far = c.loop-handed.invariant in
    let handed = subst (λ (f : List ℕ). handed_of f at None ≡ handed_at f at) so_far.file c.in-None.ensures.steps.handed in
    let none : (handed_at file at).found ≡ false = ap (λ v. v.found) (sym handed) in
    record {
      number = c.in_ok-table.ensures.number;
      table = λ e calls reads. rest_end file at c.loop-handed.table calls none (so_far.left calls reads);
      whole = λ e. so_far.whole;
    }
