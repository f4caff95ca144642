-- Document 01, "The seventeen calls": which hand waits.
use Rattle.std.specs.Prelude.{Bool, cond, ◌&&◌, ◌||◌, List, ℕ, ltb, eqb, length}
use Rattle.lists.specs.Tests.{all_of}
use Rattle.cards.specs.Card.{is_ace}
use Rattle.cards.specs.Total.{total}
use Rattle.options.specs.declared.Options.{Options}
use Rattle.rules.specs.SeatHand.{Played, split_aces, not_ended}
use Rattle.rules.specs.OpenCalls.{even_open, five_open}

-- Two aces.
unfoldable pub is_two_aces : List ℕ → Bool
is_two_aces cards = eqb (length cards) 2 && all_of is_ace cards

-- A hand from split aces (article 16 n.º 3) waits only if it is two aces, aces may split again and the seat (of `many` hands) has fewer than its hands.
unfoldable pub aces_wait : Options → ℕ → Played → Bool
aces_wait o many h = is_two_aces h.cards && eqb o.aces 1 && ltb many o.hands

-- Any other waits below 21; a natural against an ace or ten-value waits at 21 too, and so does a hand for which five is open.
unfoldable pub cards_wait : Options → ℕ → Played → Bool
cards_wait o up h = ltb (total h.cards) 21 || even_open up h || five_open o up h

-- A hand waits (article 6 4)) unless it has ended by a decision (double is one), is bust or totals 21, with the exceptions above.
unfoldable pub waits : Options → ℕ → ℕ → Played → Bool
waits o up many h = eqb h.ended not_ended && cond (eqb h.origin split_aces) (aces_wait o many h) (cards_wait o up h)
