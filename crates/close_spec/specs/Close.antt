-- Document 01, "The seventeen calls", close: the bank's cards are drawn, then all is paid and all cards become discards (articles 7 and 9 to 12).
-- Here are its numbers, the table after it, and what it returns: the bank's cards with their score, and the pay lines.
use Rattle.std.specs.Prelude.{List, [], ◌∷◌, map, ℕ, ◌+◌, ◌-◌}
use Rattle.lists.specs.Sum.{sum_of}
use Rattle.call.specs.Refusal.{Condition}
use Rattle.call.specs.Answer.{Shown}
use Rattle.cards.specs.Hand.{empty_hand}
use Rattle.cards.specs.Score.{hand_score}
use Rattle.options.specs.declared.Options.{Options}
use Rattle.payment.specs.declared.bank.Score.{Score}
use Rattle.payment.specs.Bank.{must_draw, score_of}
use Rattle.rules.specs.Turn.{some_waits}
use Rattle.payment.specs.Pays.{back_of}
use Rattle.table.specs.declared.Seat.{Seat}
use Rattle.table.specs.declared.Table.{Table}
use Rattle.table.specs.Seat.{cleared_seat, guest_at, over_guests, purse}
use Rattle.table.specs.Shoe.{with_drawn, discard_drawn}
use Rattle.table.specs.Table.{make_table, seats_hands, up}
use Rattle.table.specs.Money.{layout}
use Rattle.table.specs.Broken.{broken}
use Rattle.answer.specs.Conditions.{in_round}
use Rattle.close_spec.specs.BankDraw.{bank_at_close, close_takes}
use Rattle.close_spec.specs.PayLines.{guest_pays, all_lines}

-- 7 a hand waits; 18 the shoe ends before the bank's total reaches 17.
unfoldable pub close_conditions : Table → List Condition
close_conditions t =
    (1, broken t)
    ∷ in_round t
    ∷ (7, some_waits t.options (up t) (seats_hands t))
    ∷ (18, must_draw (bank_at_close t))
    ∷ []

-- The bank's score, and what goes back to a guest.
abbrev pub close_score : Table → Score
close_score t = score_of (bank_at_close t)

unfoldable pub guest_back : Options → Score → Seat → ℕ
guest_back o bank s = back_of (guest_pays o bank s)

-- A guest's purse then, and the seat of such guests.
abbrev pub paid_purse : Options → Score → Seat → ℕ
paid_purse o bank s = purse s + guest_back o bank s

abbrev pub paid_seat : Options → Score → Seat → Seat
paid_seat o bank s = cleared_seat (λ p. paid_purse o bank (guest_at s p))

-- What lay on the layout goes to the tray, what goes back comes from it. All drawn cards are discards.
unfoldable pub close_effect : Table → Table
close_effect t =
    make_table t.options (t.tray + layout t - sum_of (over_guests (guest_back t.options (close_score t))) t.seats)
    (map (paid_seat t.options (close_score t)) t.seats)
    empty_hand
    (discard_drawn (with_drawn t.shoe (close_takes t)))

-- Close returns the bank's cards, the pay lines and the bank's score (request 2.1).
unfoldable pub close_shown : Table → Shown
close_shown t = record { bank = bank_at_close t; lines = all_lines t.options (close_score t) 0 t.seats; scores = hand_score (bank_at_close t) ∷ [] }
