-- The options of the first block, where there is one.
use mathlib.Core.Path.{◌∙◌, ap}
use borrow.Author.Tests.{le-leb}
use Rattle.file_spec.specs.TableBlock.{options_in}
use Rattle.session_file.proofs.reader.file_options.Goals as goal

pub returns-in-Some : goal.returns-in-Some
returns-in-Some c =
    let first = c.in-Some.ensures.cases in
    rw (le-leb 512 _ first.enough) (c.options_in.ensures ∙ ap options_in first.same)
