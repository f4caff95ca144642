-- The place behind a call is a later one.
use Rattle.std.proofs.Common.{◌≡◌, sym, ap, arith}
use mathlib.Core.Bool.{true}
use Rattle.file_spec.specs.Reader.{handed_at}
use Rattle.session_file.proofs.Places.{found_inside, later}
use Rattle.session_file.proofs.reader.ReaderIterator.next.Goals as goal

pub returns-clause-goes : goal.returns-clause-goes
returns-clause-goes c =
    let file = c.args.self.now.file.now in
    let at = c.args.self.now.at in
    let handed = c.in_ok-handed.ensures in
    let found : (handed_at file at).found ≡ true = ap (λ h. h.found) (sym handed) in
    record { on = λ _. (tt, tt, omega (arith, ap (λ h. h.behind) handed, found_inside file at found, later file at found)); keeps = tt; rests = λ _. tt }
