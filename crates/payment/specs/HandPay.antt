-- Document 01, "Payment": net to the seat, per hand, first rule that fits. S is the stake, W the hand's wager.
use Rattle.std.specs.Prelude.{cond, ◌&&◌, ℕ, ◌+◌, ◌-◌, ◌*◌, ◌/◌, ltb, eqb}
use Rattle.cards.specs.Total.{total, is_bust}
use Rattle.options.specs.declared.Options.{Options}
use Rattle.payment.specs.declared.bank.Score.{Score}
use Rattle.rules.specs.SeatHand.{Played, natural, by_double, by_surrender, by_even, by_five}
use Rattle.payment.specs.declared.pay.Pay.{Pay}
use Rattle.payment.specs.Pay.{pay}
use Rattle.payment.specs.Wager.{wager}

-- What goes back where W lay and the net is +x, 0 or −x.
abbrev pub plus : ℕ → ℕ → ℕ
plus W x = W + x

abbrev pub minus : ℕ → ℕ → ℕ
minus W x = W - x

-- By totals (articles 9 and 11): +W, 0 or −W.
unfoldable pub by_totals : ℕ → ℕ → ℕ → ℕ
by_totals W mine bank = cond (ltb bank mine) (plus W W) (cond (eqb mine bank) W (minus W W))

-- A bank natural (article 10 n.º 6 and 7): −W, but −S if doubled and the loss is limited.
unfoldable pub against_natural : Options → ℕ → ℕ → Played → ℕ
against_natural o S W h = minus W (cond (eqb h.ended by_double && eqb o.limit 1) S W)

-- A hand that is not bust against the bank: natural (article 10 n.º 2 and 5, article 11) 0 against a bank natural, else +3S/2; bank natural; bank bust +W; by totals.
unfoldable pub against_bank : Options → Score → ℕ → ℕ → Played → ℕ
against_bank o bank S W h =
    cond (natural h) (cond bank.natural W (plus W (3 * S / 2)))
    (cond bank.natural (against_natural o S W h)
    (cond (ltb 21 bank.total) (plus W W)
    (by_totals W (total h.cards) bank.total)))

-- What goes back, first rule that fits: surrendered −S/2 (article 18); even +S (article 10 n.º 3); five +S/2 (article 19);
-- bust −W (article 7 n.º 2); else against the bank.
unfoldable pub hand_back : Options → Score → ℕ → ℕ → Played → ℕ
hand_back o bank S W h =
    cond (eqb h.ended by_surrender) (minus W (S / 2))
    (cond (eqb h.ended by_even) (plus W S)
    (cond (eqb h.ended by_five) (plus W (S / 2))
    (cond (is_bust h.cards) (minus W W)
    (against_bank o bank S W h))))

-- The pay of a hand: its wager lay there.
abbrev pub hand_pay : Options → Score → ℕ → Played → Pay
hand_pay o bank S h = pay (wager S h) (hand_back o bank S (wager S h) h)
