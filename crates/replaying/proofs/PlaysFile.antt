-- A file that is not refused opens, and a reader hands out its calls, so playing it is the run of these.
use mathlib.Core.Path.{◌≡◌, ◌∙◌, ap}
use mathlib.Core.Bool.{Bool, cond}
use borrow.Author.Tests.{eq-eqb}
use Rattle.cashier_spec.specs.Opening.{open_number}
use Rattle.file_spec.specs.Number.{file_number}
use Rattle.file_spec.specs.Handed.{file_options, file_order, file_calls}
use Rattle.file_spec.proofs.Laws.{accepted_file}
use Rattle.file_spec.proofs.OneFile.{opens_as_read}
use Rattle.replaying.specs.Playing.{play_number, PlaysFile}

pub plays_file : PlaysFile
plays_file file bytes zero_number = record { opens = opens; plays = λ r played. played.table (played.number ∙ opens) (file_calls file) (accepted_file file bytes zero_number).read }
  where
    opens : play_number file ≡ 0
    opens = ap (λ (b : Bool). cond b (open_number (file_options file) (file_order file)) (file_number file)) (eq-eqb (file_number file) 0 zero_number) ∙ opens_as_read file zero_number bytes
