-- Document 01, "The seventeen calls", the guest: to which hand the rules permit stand, draw, double and split, purse and shoe left aside.
-- Each is asked of a hand of a seat with `many` hands, against the up card `up`. A hand that does not wait may take none.
use Rattle.std.specs.Prelude.{Bool, not, ◌&&◌, ◌||◌, ℕ, ltb, eqb}
use Rattle.cards.specs.Total.{total}
use Rattle.cards.specs.Pair.{is_pair}
use Rattle.options.specs.declared.Options.{Options}
use Rattle.rules.specs.SeatHand.{Played, split_aces, has_two_cards}
use Rattle.rules.specs.Waits.{waits}

-- stand: every waiting hand may.
unfoldable pub permits_stand : Options → ℕ → ℕ → Played → Bool
permits_stand o up many h = waits o up many h

-- A waiting hand that is not from split aces, of a total below 21: what draw and double share.
unfoldable pub takes_cards : Options → ℕ → ℕ → Played → Bool
takes_cards o up many h = waits o up many h && not (eqb h.origin split_aces) && ltb (total h.cards) 21

-- draw (article 6 4)): a total below 21. A hand from split aces may only stand or split.
unfoldable pub permits_draw : Options → ℕ → ℕ → Played → Bool
permits_draw o up many h = takes_cards o up many h

-- double (article 17): two cards, a total below 21 and the option's total.
unfoldable pub permits_double : Options → ℕ → ℕ → Played → Bool
permits_double o up many h =
    takes_cards o up many h && has_two_cards h && (eqb o.double 1 || eqb (total h.cards) 11)

-- split (article 16): a pair, in a seat with fewer hands than the option gives it.
unfoldable pub permits_split : Options → ℕ → ℕ → Played → Bool
permits_split o up many h = waits o up many h && is_pair h.cards && ltb many o.hands
