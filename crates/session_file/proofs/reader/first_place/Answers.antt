-- The end of a refused file, else the first call.
use mathlib.Core.Path.{sym, ◌∙◌}
use borrow.Author.Tests.{eq-eqb, ne_eqb}
use Rattle.call.proofs.Refusals.{refusal_some}
use Rattle.file_spec.specs.Number.{file_number}
use Rattle.file_spec.specs.Reader.{first_place}
use Rattle.session_file.proofs.reader.first_place.Goals as goal

pub returns-in-Ok : goal.returns-in-Ok
unfolding first_place
returns-in-Ok c = rw (eq-eqb (file_number c.args.file.now) 0 (sym c.in-Ok.ensures)) c.call_place.ensures

pub returns-in-Err : goal.returns-in-Err
unfolding first_place
returns-in-Err c = rw (ne_eqb (file_number c.args.file.now) 0 (λ e. refusal_some c.in-Err.field-0 (c.in-Err.ensures ∙ e)))
