-- A guest without a stake has no line; else the insurance's line, those of the side stakes behind it, and behind them those of the hands.
use mathlib.Core.Path.{◌≡◌, sym}
use mathlib.Core.List.{◌++◌, map, map-append}
use native.Mathlib.Omega.{arith}
use borrow.Author.Tests.{lt-ltb, le-ltb}
use lib.ListN.{length}
use Rattle.payment.specs.Pays.{insurance_pays, side_pays, hand_pays, pays_of}
use Rattle.table.specs.Seat.{stake, sides, first_cards, hands}
use Rattle.close_spec.specs.PayLines.{line_of, guest_lines}
use Rattle.close.proofs.FirstCards.{first_cards_lem}
use Rattle.close.proofs.pay_lines.Lines.{put_none, put_more}
use borrow.Author.Rules.{rules}
use Rattle.close.proofs.paying.Payment.guest_lines.Goals as goal

pub returns-then-stake-eq0 : goal.returns-then-stake-eq0
unfolding guest_lines
returns-then-stake-eq0 c =
    let a = c.args in
    rw (le-ltb 0 (stake a.s) (omega arith)) (put_none a.lines.now)

pub returns : goal.returns
unfolding guest_lines pays_of
returns c =
    let sided = c in
    let insured = sided in
    let past = insured in
    let start = past in
    let a = start.args in
    let full : length a.s.hands.places ≡ 4 = search rules in
    let as_line = line_of a.guest.seat a.guest.position in
    let insurance = insurance_pays a.self.now.bank a.s.money.insurance in
    let beside = side_pays (sides a.s) (first_cards a.s) in
    let played = hand_pays a.self.now.options a.self.now.bank a.s.money.stake 0 (hands a.s) in
    let two = put_more (map as_line insurance) (map as_line beside) _ insured.insurance_lines.ensures (rw (first_cards_lem a.s full) at sided.side_lines.ensures) (sym (map-append as_line insurance beside)) in
    rw (lt-ltb 0 (stake a.s) (omega (arith, past.if-stake-eq0.false)))
    (put_more (map as_line (insurance ++ beside)) (map as_line played) _ two c.hand_lines.ensures (sym (map-append as_line (insurance ++ beside) played)))
