-- Demand 3, as document 01's section "The history" says it: one claim about every list of calls, refused ones among them,
-- from the table of an accepted opening, each call on the table that the one before returned. A field for each sentence.
use Rattle.std.specs.Prelude.{◌≡◌, false, List, [], ◌++◌, map, ℕ, ◌+◌, ◌≤◌, ◌<◌, pos, ◌-ℤ◌, length}
use Rattle.lists.specs.Sum.{count_of}
use Rattle.options.specs.declared.Options.{Options}
use Rattle.table.specs.declared.Table.{Table}
use Rattle.payment.specs.Wager.{wager}
use Rattle.payment.specs.Bets.{side}
use Rattle.table.specs.Seat.{purse, stake, insurance, sides, hands, first_cards, laid}
use Rattle.table.specs.Table.{seat_at, guest_of, hand_cards, bank_cards, table_shoe, cards_left, table_discards}
use Rattle.table.specs.Progress.{any_drew, any_decided}
use Rattle.table.specs.Money.{layout, purses}
use Rattle.table.specs.Broken.{broken}
use Rattle.history.specs.Entry.{Entry}
use Rattle.history.specs.Rounds.{is_dealt_round, decided_in, drew_in, stake_in, insurance_in, side_in}
use Rattle.history.specs.Cards.{cards_of_history, drawn_cards}
use Rattle.history.specs.Hands.{hands_in, first_in}
use Rattle.history.specs.Money.{came_in, went_out, laid_in, purse_of}
use Rattle.cashier_spec.specs.Opening.{opened}
use Rattle.engine.specs.Run.{run, accepted}

-- What is claimed of a table t and the accepted calls es, newest first.
pub record Claim (o : Options) (opening : List ℕ) (es : List Entry) (t : Table) : Type 0 where
  -- tray + layout + purses = accepted fills + buys − credits − cashes
  pub balance : pos (t.tray + layout t + purses t) ≡ pos (came_in es) -ℤ pos (went_out es)
  -- each guest's purse and layout money equal the history's, for every seat and position (request 2.8)
  pub purse_is : (i p : ℕ) → pos (purse (guest_of t i p)) ≡ purse_of o opening es i p
  pub layout_is : (i p : ℕ) → laid (guest_of t i p) ≡ laid_in es i p
  -- and so do stake and insurance
  pub stake_is : (i p : ℕ) → stake (guest_of t i p) ≡ stake_in es i p
  pub insurance_is : (i p : ℕ) → insurance (guest_of t i p) ≡ insurance_in es i p
  -- the side stakes by kind, and in a dealt round the first cards of the seat that they are paid by (request 2.6)
  pub sides_are : (i p k : ℕ) → 1 ≤ k → k ≤ 4 → side (sides (guest_of t i p)) k ≡ side_in es i p k
  pub first_is : (i : ℕ) → 0 < length (hands (seat_at t i)) → first_cards (seat_at t i) ≡ first_in o opening es i
  -- the hands of each seat, their number and their cards place by place, and the bank's cards equal the history's
  pub hands_are : (i : ℕ) → hands (seat_at t i) ≡ hands_in o opening es i
  -- and each hand's W, by each guest's own stake
  pub wagers_are : (i p : ℕ) → map (wager (stake (guest_of t i p))) (hands (seat_at t i)) ≡ map (wager (stake_in es i p)) (hands_in o opening es i)
  pub bank_is : bank_cards t ≡ (cards_of_history o opening es).bank
  -- what number 12 asks of the table's hands is what the accepted calls of the round say: that somebody has drawn, doubled or split, and that a decision
  -- was taken
  pub drew_is : any_drew t ≡ drew_in es
  pub decided_is : any_decided t ≡ decided_in es
  -- none outside a round that the history calls dealt
  pub hands_outside : is_dealt_round es ≡ false → (i : ℕ) → hands_in o opening es i ≡ []
  pub bank_outside : is_dealt_round es ≡ false → (cards_of_history o opening es).bank ≡ []
  -- the cards that the history has drawn since its last load, followed by the table's shoe, are the order of its last load
  pub shoe_is : drawn_cards o opening es ++ table_shoe t ≡ (cards_of_history o opening es).order
  -- and the count of cards left is how many that shoe has
  pub left_is : cards_left t ≡ length (table_shoe t)
  -- of every face hands, bank, discards and shoe together hold as many cards as that order
  pub faces : (face : ℕ) → face < 52 → count_of face (hand_cards t) + count_of face (bank_cards t) + count_of face (table_discards t) + count_of face (table_shoe t) ≡ count_of face (cards_of_history o opening es).order
  -- the table is not broken
  pub sound : broken t ≡ false

-- After the list `calls`, oldest first, from the table that the opening returned.
abbrev pub Books : Options → List ℕ → List Entry → Type 0
Books o opening calls = Claim o opening (accepted (opened o opening) calls []) (run (opened o opening) calls)
