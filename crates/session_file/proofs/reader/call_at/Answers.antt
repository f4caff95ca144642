-- Ten bytes lie at a place, or there is no call.
use Rattle.std.proofs.Common.{◌≡◌, ◌∙◌, ap, length, ◌+◌, ◌-◌, ◌≤◌, ◌<◌, take, drop, arith}
use mathlib.Core.Logic.{inl, inr}
use borrow.Author.Tests.{le-leb, lt-leb}
use Rattle.std.proofs.lemmas.List.{take-take}
use Rattle.file_spec.specs.Reader.{handed_at, code_of}
use Rattle.session_file.proofs.reader.call_at.Goals as goal

pub returns-in_err-get : goal.returns-in_err-get
unfolding handed_at
returns-in_err-get c =
    let past : length c.args.file.now < c.args.at = elim c.in_err-get.ensures.lookup.0 [ inl h ↦ h | inr h ↦ absurd (omega arith) ] in
    rw (c.from_residual.ensures, lt-leb (c.args.at + 10) (length c.args.file.now) (omega arith))

pub returns-in_err-code : goal.returns-in_err-code
unfolding handed_at
returns-in_err-code c =
    let few : length c.in_ok-get.field-0.now < 10 = c.in_err-code.ensures.cases in
    let rest = c.in_ok-get.ensures.lookup.0 in
    rw (c.from_residual-in_err-code.ensures, lt-leb (c.args.at + 10) (length c.args.file.now) (omega (arith, few, rest)))

pub returns : goal.returns
unfolding handed_at
returns c =
    let file = c.args.file.now in
    let at = c.args.at in
    let first = c.in_ok-code.ensures.cases in
    let rest = c.in_ok-get.ensures.lookup.0 in
    let enough : 10 ≤ length c.in_ok-get.field-0.now = first.enough in
    let code : c.in_ok-code.code.now ≡ code_of file at = first.same ∙ ap (take 10) rest.2 ∙ take-take 10 (length file - at) (drop at file) (omega (arith, enough, rest)) in
    rw (le-leb (at + 10) (length file) (omega (arith, enough, rest))) (c.hand_out.ensures ∙ rw (c.code_call.ensures, code))
