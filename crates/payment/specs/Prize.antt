-- Document 01, "Payment", article 15, and request 2.2: prize, if on: +3W, as soon as a hand is three sevens or a suited 6-7-8, split hands included. W is the
-- wager that the hand has once the call that makes it is done.
use Rattle.std.specs.Prelude.{cond, ◌&&◌, ℕ, ◌*◌, eqb}
use Rattle.cards.specs.PrizeHand.{is_prize_hand}
use Rattle.options.specs.declared.Options.{Options}
use Rattle.rules.specs.SeatHand.{Played}
use Rattle.payment.specs.Wager.{wager}

-- The prize of a hand in a seat of stake S.
unfoldable pub prize : Options → ℕ → Played → ℕ
prize o S h = cond (eqb o.prize 1 && is_prize_hand h.cards) (3 * wager S h) 0

-- The most that it can be: the prize of a doubled hand.
abbrev pub most_prize : ℕ → ℕ
most_prize S = 6 * S
