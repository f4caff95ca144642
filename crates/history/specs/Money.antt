-- Document 01, "The history", money, by position (request 2.8): a guest lays in a round a stake, an insurance, side stakes (request 2.6), and S again for each double and split of
-- the seat. The purse is the guest's buys − cashes − all that was laid + all prizes; for each closed round add what was laid and the nets; for each voided round add what was laid
-- and take the prizes off. The layout money is what was laid in the round not yet ended. These sums may pass below 0 on the way.
use Rattle.std.specs.Prelude.{cond, ◌&&◌, ◌||◌, List, [], ◌∷◌, ℕ, ◌+◌, ℤ, pos, ◌+ℤ◌, ◌-ℤ◌, get_or}
use Rattle.options.specs.declared.Options.{Options}
use Rattle.payment.specs.declared.bank.Score.{Score}
use Rattle.rules.specs.SeatHand.{Played, by_double}
use Rattle.payment.specs.Bank.{score_of}
use Rattle.rules.specs.Turn.{waiting_place}
use Rattle.payment.specs.Bets.{Bets, bets}
use Rattle.payment.specs.Pays.{pays_of, nets_of}
use Rattle.payment.specs.Prize.{prize}
use Rattle.history.specs.Entry.{Entry, is_of, is_by, is_fill, is_credit, is_buy, is_cash, is_stake, is_insure, is_side, is_draw, is_double, is_split, is_close, is_void, is_end, amount_of}
use Rattle.history.specs.Rounds.{stake_in, insurance_in, sides_in}
use Rattle.history.specs.Cards.{Cards, cards_of_history, bank_final}
use Rattle.history.specs.Hands.{missing_hand, grown, finished, next_card, hands_in, first_in}

-- Money that came and went with the house's and the cashier's calls, over all guests.
abbrev pub came_in : List Entry → ℕ
came_in [] = 0
came_in (e ∷ es) = cond (is_fill e || is_buy e) (amount_of e) 0 + came_in es

abbrev pub went_out : List Entry → ℕ
went_out [] = 0
went_out (e ∷ es) = cond (is_credit e || is_cash e) (amount_of e) 0 + went_out es

-- The guest's buys and cashes.
abbrev pub bought : List Entry → ℕ → ℕ → ℕ
bought [] i p = 0
bought (e ∷ es) i p = cond (is_buy e && is_by i p e) (amount_of e) 0 + bought es i p

abbrev pub cashed : List Entry → ℕ → ℕ → ℕ
cashed [] i p = 0
cashed (e ∷ es) i p = cond (is_cash e && is_by i p e) (amount_of e) 0 + cashed es i p

-- What a call lays for the guest in position p of seat i, whose stake in the round is S: a double or split of the seat, whoever decided it, S again.
unfoldable pub lays : ℕ → ℕ → ℕ → Entry → ℕ
lays i p S e = cond (is_of i e) (cond (is_double e || is_split e) S (cond (is_by i p e && (is_stake e || is_insure e || is_side e)) (amount_of e) 0)) 0

-- All that the guest laid, and what was laid in the round not yet ended: the layout money.
abbrev pub laid_ever : List Entry → ℕ → ℕ → ℕ
laid_ever [] i p = 0
laid_ever (e ∷ es) i p = lays i p (stake_in es i p) e + laid_ever es i p

abbrev pub laid_in : List Entry → ℕ → ℕ → ℕ
laid_in [] i p = 0
laid_in (e ∷ es) i p = cond (is_end e) 0 (lays i p (stake_in es i p) e + laid_in es i p)

-- The prize that a call of the seat makes for a guest of stake S: of the hand whose turn it is, as the draw or the double leaves it (request 2.2: 3 × its W).
unfoldable pub wins : Options → Cards → ℕ → ℕ → List Played → Entry → ℕ
wins o c i S hands e =
    let h = grown (get_or hands (waiting_place o (get_or c.bank 0 0) hands) missing_hand) (next_card c 0) in
    cond (is_of i e && is_draw e) (prize o S h)
    (cond (is_of i e && is_double e) (prize o S (finished h by_double)) 0)

module _ (o : Options) (opening : List ℕ) where
  -- The prize of a call after these, all prizes of the guest, and those of the round not yet ended.
  abbrev pub prize_of : List Entry → ℕ → ℕ → Entry → ℕ
  prize_of es i p e = wins o (cards_of_history o opening es) i (stake_in es i p) (hands_in o opening es i) e

  abbrev pub prizes_ever : List Entry → ℕ → ℕ → ℕ
  prizes_ever [] i p = 0
  prizes_ever (e ∷ es) i p = prize_of es i p e + prizes_ever es i p

  abbrev pub prizes_in : List Entry → ℕ → ℕ → ℕ
  prizes_in [] i p = 0
  prizes_in (e ∷ es) i p = cond (is_end e) 0 (prize_of es i p e + prizes_in es i p)

  -- What a guest has on the layout, and the nets of all that is paid to it, if the round closes now.
  abbrev pub closing_score : List Entry → Score
  closing_score es = score_of (bank_final o (cards_of_history o opening es))

  abbrev pub bets_in : List Entry → ℕ → ℕ → Bets
  bets_in es i p = bets (stake_in es i p) (insurance_in es i p) (sides_in es i p) (first_in o opening es i) (hands_in o opening es i)

  abbrev pub nets_in : List Entry → ℕ → ℕ → ℤ
  nets_in es i p = nets_of (pays_of o (closing_score es) (bets_in es i p))

  -- What a call adds that ends a round: for a closed round what the guest laid and the nets; for a voided round what was laid less the prizes.
  abbrev pub end_brings : List Entry → ℕ → ℕ → Entry → ℤ
  end_brings es i p e =
      cond (is_close e) (pos (laid_in es i p) +ℤ nets_in es i p)
      (cond (is_void e) (pos (laid_in es i p) -ℤ pos (prizes_in es i p))
      (pos 0))

  abbrev pub ends_brought : List Entry → ℕ → ℕ → ℤ
  ends_brought [] i p = pos 0
  ends_brought (e ∷ es) i p = end_brings es i p e +ℤ ends_brought es i p

  -- The guest's purse.
  abbrev pub purse_of : List Entry → ℕ → ℕ → ℤ
  purse_of es i p = pos (bought es i p) -ℤ pos (cashed es i p) -ℤ pos (laid_ever es i p) +ℤ pos (prizes_ever es i p) +ℤ ends_brought es i p
