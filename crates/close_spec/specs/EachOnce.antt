-- Document 01, "Payment", by position (request 2.8): one pay line for each hand, insurance and side stake of each guest who has staked, each exactly once and with its net; and no
-- other line.
use Rattle.std.specs.Prelude.{◌≡◌, Bool, not, cond, ◌&&◌, List, [], ◌∷◌, ℕ, ◌-◌, leb, ltb, eqb, length, get_or}
use Rattle.lists.specs.Tests.{those}
use Rattle.call.specs.PayLine.{PayLine, line}
use Rattle.options.specs.declared.Options.{Options}
use Rattle.payment.specs.declared.bank.Score.{Score}
use Rattle.rules.specs.SeatHand.{played_of}
use Rattle.payment.specs.Pay.{net}
use Rattle.payment.specs.HandPay.{hand_pay}
use Rattle.payment.specs.Insurance.{insurance_pay}
use Rattle.payment.specs.SidePay.{side_pay}
use Rattle.payment.specs.Bets.{side}
use Rattle.payment.specs.Pays.{hand_kind, insurance_kind, side_kind}
use Rattle.table.specs.declared.Seat.{Seat}
use Rattle.table.specs.Seat.{missing_place, missing_seat, guest_at, is_staked, stake, insurance, sides, hands, first_cards}
use Rattle.close_spec.specs.PayLines.{all_lines}

-- The line names this seat, position, place and kind.
abbrev pub names : ℕ → ℕ → ℕ → ℕ → PayLine → Bool
names seat position place kind l = eqb seat l.seat && eqb position l.position && eqb place l.place && eqb kind l.kind

-- What is due under a place and a kind to the guest of this seat and position, who has staked: one line for the hand in that place, one for the insurance, one for each side stake,
-- else none.
unfoldable pub due_lines : Options → Score → ℕ → ℕ → Seat → ℕ → ℕ → List PayLine
due_lines o bank seat position s place kind =
    cond (not (is_staked s)) []
    (cond (eqb kind hand_kind && ltb place (length (hands s))) (line seat position place hand_kind (net (hand_pay o bank (stake s) (get_or (hands s) place (played_of missing_place)))) ∷ [])
    (cond (eqb kind insurance_kind && eqb place 0 && ltb 0 (insurance s)) (line seat position 0 insurance_kind (net (insurance_pay bank (insurance s))) ∷ [])
    (cond (leb (side_kind 1) kind && leb kind (side_kind 4) && eqb place 0 && ltb 0 (side (sides s) (kind - 1))) (line seat position 0 kind (net (side_pay (kind - 1) (side (sides s) (kind - 1)) (first_cards s))) ∷ []) [])))

-- Under every seat, position, place and kind close has exactly the lines that are due; a number past the seats has no stake, and past the third position there is no guest.
abbrev pub EachOnce : Options → Score → List Seat → Type 0
EachOnce o bank seats =
    (seat position place kind : ℕ)
    → those (names seat position place kind) (all_lines o bank 0 seats)
    ≡ cond (ltb position 3) (due_lines o bank seat position (guest_at (get_or seats seat missing_seat) position) place kind) []
