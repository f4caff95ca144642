-- A known kind fits its byte.
use Rattle.std.proofs.Common.{◌∙◌, ap, sym, ◌<◌, arith, rules}
use Rattle.file_spec.specs.Block.{little_endian}
use Rattle.file_spec.specs.CallBlock.{call_bytes}
use Rattle.file_writer.specs.declared.codes.Parts.{Parts}
use Rattle.file_writer.proofs.LittleEndian.{bytes_8}
use Rattle.file_writer.proofs.Adds.{known_parts, small_fits}
use Rattle.file_writer.proofs.codes.CodeTryFromCall.try_from.Goals as goal

pub returns-in-Some : goal.returns-in-Some
unfolding call_bytes little_endian
returns-in-Some c =
    let call = c.args.call in
    let parts = c.parts_of-kind.ensures in
    let known = known_parts call c.in-Some.kind (ap (λ (p : Parts). p.kind) (sym parts) ∙ c.in-Some.is) in
    let seat = ap (λ (p : Parts). p.seat) parts in
    let position = ap (λ (p : Parts). p.position) parts in
    let amount = ap (λ (p : Parts). p.amount) parts in
    let full : c.parts_of-kind.result.amount < 18446744073709551616 = search rules in (
      small_fits call known.0 (omega (arith, seat, c.if-seat-lt16.true)) (omega (arith, position, c.if-position-lt16.true)) (omega (arith, amount, full)),
      rw (c.to_le_bytes.ensures ∙ bytes_8 c.parts_of-kind.result.amount, seat, position, amount, known.1),
    )
