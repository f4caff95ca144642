-- A file of number 0, put together of what its blocks give.
use Rattle.file_spec.specs.Laws.{AcceptedFile}
use Rattle.file_spec.proofs.OneFile.{one_file}
use Rattle.file_spec.proofs.Readers.{reads_all}

pub accepted_file : AcceptedFile
accepted_file file bytes zero_number = record { one_file = one_file file zero_number bytes; read = reads_all file bytes zero_number }
